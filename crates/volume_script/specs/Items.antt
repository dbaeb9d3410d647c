-- What one line of a script did to the outside, with what follows it (this project's own).
use Rattle.std.specs.Prelude.{◌≡◌, ℕ, List, length, ◌<◌, ◌≤◌, ◌⊎◌, ◌++◌, All, IfSome, IfNone, Result, Ok, Err}
use Rattle.cartridge_spec.specs.Table.{Entry}
use Rattle.command_laws.specs.ScriptItems.{EarlyDoes}
use Rattle.command_spec.specs.Input.{promised}
use Rattle.command_spec.specs.Script.{LineDoes, Did}
use Rattle.command_spec.specs.declared.line.Line.{Line}
use Rattle.qic_base.specs.Acts.{Act, Outside, Went, Failing, Cut, TapeFails, SourceFails, SinkFails}
use Rattle.qic_base.specs.Cartridge.{Cartridge}
use Rattle.qic_base.specs.SourceCalls.{Gave, HasEnded}
use Rattle.qic_base.specs.declared.store_fault.StoreFault.{StoreFault}
use Rattle.volume_store.specs.Mounting.{StoreView}
use Rattle.qic_base.specs.Sink as sinks
use Rattle.qic_base.specs.Source as sources
use Rattle.qic_base.specs.Tape as tapes
use Rattle.qic_base.specs.TapeCalls as tape_calls
use Rattle.qic_base.specs.declared.store_fault.StoreFault.TheVariants as fault

-- The line was carried out, with all the bytes that it promises; bytes they are, too, where the source tells none.
pub record ItemDone {T S K : Type 0} (t : tapes.Meaning T) (s : sources.Meaning S) (k : sinks.Meaning K) (store after : StoreView)
    (old new : Outside T S K) (asked : Line) : Type 0 where
  pub bytes : List ℕ
  pub kept : length bytes ≡ promised asked
  pub gave : Gave s old.source new.source bytes
  pub content : IfNone (s.left old.source) (All (λ b. b < 256) bytes)
  pub acts : List Act
  pub went : Went t s k old new acts
  pub told : tape_calls.Tells t old.tape
      (λ c. LineDoes c store.words store.entries asked bytes (record { acts = acts; entries = after.entries }))

-- The source ended before them, behind so many.
pub record ItemShort {T S K : Type 0} (t : tapes.Meaning T) (s : sources.Meaning S) (k : sinks.Meaning K) (store : StoreView)
    (old new : Outside T S K) (asked : Line) (read : ℕ) : Type 0 where
  pub bytes : List ℕ
  pub all : length bytes ≡ read
  pub short : length bytes < promised asked
  pub gave : Gave s old.source new.source bytes
  pub content : IfNone (s.left old.source) (All (λ b. b < 256) bytes)
  pub ended : HasEnded s new.source
  pub acts : List Act
  pub went : Went t s k old new acts
  pub told : tape_calls.Tells t old.tape (λ c. EarlyDoes c store.words store.entries asked bytes acts)

-- what a line does with the first of some bytes, where these are all that is left: as many as it promises, or fewer
abbrev pub WouldDo : Cartridge → (words : List ℕ) → List Entry → Line → (rest : List ℕ) → List Act → Type 0
WouldDo c words entries asked rest acts =
    ((bytes : List ℕ) × ((behind : List ℕ) × ((rest ≡ bytes ++ behind) × (length bytes ≡ promised asked)
    × ((did : Did) × (did.acts ≡ acts) × LineDoes c words entries asked bytes did))))
    ⊎ ((length rest < promised asked) × EarlyDoes c words entries asked rest acts)

-- A fault of the outside cut it off, whatever is left of the source, which gave no more bytes than the line promises.
pub record ItemCut {T S K : Type 0} (t : tapes.Meaning T) (s : sources.Meaning S) (k : sinks.Meaning K) (store : StoreView)
    (old new : Outside T S K) (asked : Line) (failing : Failing) : Type 0 where
  pub rest : List ℕ
  pub is_told : IfSome (s.left old.source) (λ bytes. bytes ≡ rest)
  pub content : IfNone (s.left old.source) (All (λ b. b < 256) rest)
  pub told : tape_calls.Tells t old.tape
      (λ c. (acts : List Act) → WouldDo c store.words store.entries asked rest acts → Cut t s k old new acts failing)
  pub given : List ℕ
  pub few : length given ≤ promised asked
  pub gave : Gave s old.source new.source given
  -- and over any tape
  pub acts : List Act
  pub cut : Cut t s k old new acts failing

-- the volume table did not show the volumes
pub record ItemMismatched {T S K : Type 0} (t : tapes.Meaning T) (s : sources.Meaning S) (k : sinks.Meaning K)
    (old new : Outside T S K) : Type 0 where
  pub acts : List Act
  pub went : Went t s k old new acts
  pub told : tape_calls.Tells t old.tape (λ c. ⊥)
  pub bytes : List ℕ
  pub gave : Gave s old.source new.source bytes

-- how a line ended
abbrev pub ItemEnds : {T S K : Type 0} (t : tapes.Meaning T) (s : sources.Meaning S) (k : sinks.Meaning K) (store after : StoreView)
    (old new : Outside T S K) → Line → Result (Unit {0}) StoreFault → Type 0
ItemEnds t s k store after old new asked (Ok done) = ItemDone t s k store after old new asked
ItemEnds t s k store after old new asked (Err (fault.Short all read)) = (all ≡ promised asked) × ItemShort t s k store old new asked read
ItemEnds t s k store after old new asked (Err fault.TableMismatch) = ItemMismatched t s k old new
ItemEnds t s k store after old new asked (Err fault.Source) = ItemCut t s k store old new asked SourceFails
ItemEnds t s k store after old new asked (Err fault.Sink) = ItemCut t s k store old new asked SinkFails
ItemEnds t s k store after old new asked (Err fault.Tape) = ItemCut t s k store old new asked TapeFails
ItemEnds t s k store after old new asked (Err other) = ⊥
