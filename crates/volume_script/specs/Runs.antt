-- How a run of a script ended (this project's own).
use Rattle.std.specs.Prelude.{◌≡◌, ℕ, ◌++◌, ◌<◌, All, List, drop, IfNone, Result, Ok, Err}
use Rattle.std.specs.Option.{option_map}
use Rattle.qic_base.specs.Acts.{Act, text_of, Outside, Failing, TapeFails, SourceFails, SinkFails, Went, Cut}
use Rattle.command_spec.specs.Input.{Item, IsItem, Ending, IsScript, Reaches}
use Rattle.command_spec.specs.Machine.{LeftAtFault, acts_before}
use Rattle.volume_store.specs.Mounting.{StoreView}
use Rattle.command_spec.specs.declared.status.Status.{Status}
use Rattle.command_spec.specs.Script.{Did, ItemsDo, ReachesItem, ScriptDoes, acts_of, end_line}
use Rattle.volume_script.specs.Answers.{Answer, AllDone, FaultIn, script_answer, script_status}
use Rattle.command_spec.specs.Outcome.{CommandOutcome}
use Rattle.qic_base.specs.Cartridge.{Cartridge}
use Rattle.qic_base.specs.Source.{IsInput}
use Rattle.qic_base.specs.Sink as sinks
use Rattle.qic_base.specs.Source as sources
use Rattle.qic_base.specs.Tape as tapes
use Rattle.qic_base.specs.TapeCalls as tape_calls
use Rattle.command_spec.specs.declared.status.Status.TheVariants as status

-- what is left of the source: the bytes behind those taken; or what a fault of the input leaves
abbrev pub Leaves : {S : Type 0} (s : sources.Meaning S) (old new : S) (taken : ℕ) → Answer → Type 0
Leaves s old new taken AllDone = s.left new ≡ option_map (drop taken) (s.left old)
Leaves s old new taken (FaultIn number place) = LeftAtFault place (s.left old) (s.left new)

-- It came to its end, with this answer: all acts of the plain machine's outcome went, over the input that the source told,
-- or some input of bytes where it tells none.
pub record Ended {T S K : Type 0} (t : tapes.Meaning T) (s : sources.Meaning S) (k : sinks.Meaning K) (store : StoreView)
    (old new : Outside T S K) (answer : Answer) : Type 0 where
  pub input : List ℕ
  pub is_told : IsInput (s.left old.source) input
  pub content : IfNone (s.left old.source) (All (λ b. b < 256) input)
  pub outcome : CommandOutcome
  pub told : tape_calls.Tells t old.tape (λ c. ScriptDoes c store.words store.entries input outcome)
  pub answered : outcome.status ≡ script_status answer
  pub went : Went t s k old new outcome.acts
  pub left : Leaves s old.source new.source outcome.taken answer
  -- and over any tape
  pub items : List Item
  pub ending : Ending
  pub read : IsScript input items ending
  pub by_ending : answer ≡ script_answer ending
  -- where all was carried out, the reply `end` is the last
  pub replied : answer ≡ AllDone → (replies : List ℕ) × (text_of outcome.acts ≡ replies ++ end_line)

-- The volume table did not show the volumes that were mounted: never where the tape tells its cartridge.
pub record Mismatched {T S K : Type 0} (t : tapes.Meaning T) (s : sources.Meaning S) (k : sinks.Meaning K)
    (old new : Outside T S K) : Type 0 where
  pub acts : List Act
  pub went : Went t s k old new acts
  pub told : tape_calls.Tells t old.tape (λ c. ⊥)
  pub taken : ℕ
  pub left : s.left new.source ≡ option_map (drop taken) (s.left old.source)

-- the acts of some items come before others
abbrev pub ItemsFirst : (store : StoreView) → Cartridge → List Item → (done : List Act) → Type 0
ItemsFirst store c items done =
    (dids : List Did) × ((rest : List Act) × (ItemsDo c store.words store.entries items dids × (done ≡ acts_of dids ++ rest)))

-- this fault cut the acts of each outcome of an input off, behind all those of some items
abbrev pub CutItems : {T S K : Type 0} (t : tapes.Meaning T) (s : sources.Meaning S) (k : sinks.Meaning K) (store : StoreView)
    (old new : Outside T S K) (failing : Failing) (input : List ℕ) (items : List Item) → Cartridge → Type 0
CutItems t s k store old new failing input items c =
    (outcome : CommandOutcome) → ScriptDoes c store.words store.entries input outcome →
    (cut : Cut t s k old new outcome.acts failing) × ItemsFirst store c items (acts_before t s k old new outcome.acts failing cut)

-- A fault of this object of the outside cut it off, in the midst of the acts of the plain machine's outcome; of the input the items
-- were taken that were carried out and answered before, and into what is behind them.
pub record CutOff {T S K : Type 0} (t : tapes.Meaning T) (s : sources.Meaning S) (k : sinks.Meaning K) (store : StoreView)
    (old new : Outside T S K) (failing : Failing) : Type 0 where
  pub input : List ℕ
  pub is_told : IsInput (s.left old.source) input
  pub content : IfNone (s.left old.source) (All (λ b. b < 256) input)
  pub taken : ℕ
  pub left : s.left new.source ≡ option_map (drop taken) (s.left old.source)
  pub reaches : Reaches IsItem (λ items. tape_calls.Tells t old.tape (CutItems t s k store old new failing input items)) ReachesItem
      input taken
  -- and over any tape
  pub acts : List Act
  pub cut : Cut t s k old new acts failing

-- how a run ended
abbrev pub ScriptEnds : {T S K : Type 0} (t : tapes.Meaning T) (s : sources.Meaning S) (k : sinks.Meaning K) (store : StoreView)
    (old new : Outside T S K) → Result (Unit {0}) Status → Type 0
ScriptEnds t s k store old new (Ok done) = Ended t s k store old new AllDone
ScriptEnds t s k store old new (Err (status.ScriptFault line place)) = Ended t s k store old new (FaultIn line place)
ScriptEnds t s k store old new (Err status.TableMismatch) = Mismatched t s k old new
ScriptEnds t s k store old new (Err status.SourceFault) = CutOff t s k store old new SourceFails
ScriptEnds t s k store old new (Err status.SinkFault) = CutOff t s k store old new SinkFails
ScriptEnds t s k store old new (Err status.TapeFault) = CutOff t s k store old new TapeFails
ScriptEnds t s k store old new (Err other) = ⊥
