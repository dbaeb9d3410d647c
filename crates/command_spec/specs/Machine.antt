-- The plain machine over words, and how a command ended: all acts of its outcome went, or a fault of the outside cut
-- them off (this project's own).
use Rattle.std.specs.Prelude.{ℕ, List, Option, not, ◌≡◌, ◌⊎◌, [], IfSome, ◌+◌, drop, Bool, true, false, ◌&&◌, ◌==◌, nat_lt, nat_le, ◌≤◌}
use Rattle.std.specs.Prelude.{◌||◌, ◌<◌, All, IfNone, ◌≢◌, is_some}
use Rattle.command_spec.specs.Command.{HasForm}
use Rattle.command_spec.specs.Commands.{command_of, traits_of}
use Rattle.command_spec.specs.Input.{most_items, EndsEarly}
use Rattle.command_spec.specs.Numbers.{are_too_many, is_of_volume, is_segment_count}
use Rattle.command_spec.specs.Outcome.{CommandOutcome, output_of, is_refused}
use Rattle.command_spec.specs.declared.status.Status.{Status}
use Rattle.command_spec.specs.declared.words.Words.{Words}
use Rattle.qic_base.specs.Acts.{steps_of, Outside, Failing, TapeFails, SourceFails, SinkFails, Went, Act, Cut, text_of}
use Rattle.qic_base.specs.Cartridge.{Cartridge}
use Rattle.qic_base.specs.Step.{effects}
use Rattle.std.specs.Option.{option_map}
use Rattle.qic_base.specs.Source.{IsInput}
use Rattle.command_spec.specs.declared.status.Status.TheVariants as status
use Rattle.qic_base.specs.Source as sources
use Rattle.qic_base.specs.Tape as tapes
use Rattle.qic_base.specs.Sink as sinks

-- ---- commands

-- the bounds of a command's values
abbrev pub HasValues : Words → Type 0
HasValues command = (command_of command).values

-- ---- words

-- the words are those of a command
abbrev pub Spells : (words : List (List ℕ)) → Words → Type 0
Spells words command = HasForm words (command_of command).forms

-- they are those of none
abbrev pub SpellsNone : List (List ℕ) → Type 0
SpellsNone words = (command : Words) → ¬ (Spells words command)

-- words, what the drive holds and the input; and then what it holds, what was printed, how many bytes of the input were
-- taken, and the status
abbrev pub Step : (words : List (List ℕ)) (held : Option Cartridge) (input : List ℕ) (held' : Option Cartridge) (output : List ℕ)
    (taken : ℕ) → Status → Type 0
Step words held input held' output taken answer =
    (SpellsNone words × (held' ≡ held) × (output ≡ []) × (taken ≡ 0) × (answer ≡ status.Usage))
    ⊎ ((command : Words) × Spells words command × ((outcome : CommandOutcome) × (command_of command).yields held input outcome
    × (held' ≡ effects (steps_of outcome.acts) held) × (output ≡ output_of outcome) × (taken ≡ outcome.taken) × (answer ≡ outcome.status)))

-- where the tape tells, a fact of what it told and of the input: that which the source told, or some input where it
-- tells none
abbrev pub OverTold : {T S K : Type 0} (t : tapes.Meaning T) (s : sources.Meaning S) (old : Outside T S K)
    (P : Option Cartridge → List ℕ → Type 0) → Type 0
OverTold t s old P =
    IfSome (t.told old.tape) (λ held. (input : List ℕ) × IsInput (s.left old.source) input × P held input)

-- Of the bytes from the place of a fault on an end is left: at most 128 of them were taken; or all, where an append's line begins
-- them, and they end before the bytes that it promises.
abbrev pub LeftAtFault : (place : ℕ) → (before after : Option (List ℕ)) → Type 0
LeftAtFault place before after =
    (more : ℕ) × (after ≡ option_map (drop (place + more)) before)
    × ((more ≤ 128) ⊎ (IfSome after (λ end. end ≡ []) × IfSome before (λ bytes. EndsEarly (drop place bytes))))

-- What is left of the input: what stands behind the bytes taken; or, where a line is at fault, that.
abbrev pub InputLeft : Status → (taken : ℕ) → (before after : Option (List ℕ)) → Type 0
InputLeft (status.ScriptFault line place) taken before after = LeftAtFault place before after
InputLeft answer taken before after = after ≡ option_map (drop taken) before

-- ---- answers

-- a fault of the outside ended the run
abbrev pub is_fault : Status → Bool
is_fault status.SourceFault = true
is_fault status.SinkFault = true
is_fault status.TapeFault = true
is_fault answer = false

-- the answer to the fault of an object
abbrev pub fault_of : Failing → Status
fault_of TapeFails = status.TapeFault
fault_of SourceFails = status.SourceFault
fault_of SinkFails = status.SinkFault

-- an answer of a command to what it finds: each but the faults, words of no command and want of memory
abbrev pub is_outcome : Status → Bool
is_outcome status.Usage = false
is_outcome status.NoMemory = false
is_outcome answer = not (is_fault answer)

-- The commands that such an answer may come from, and with which numbers, whatever the tape and the source tell. A line at
-- fault is one of the first 65,537. A segment that doesn't read lost more than three of its 32 sectors, and is that of the volume
-- table, or one behind it where the command may end in a volume's. A defect in front is in one of the segments 0 to 2. A foreign
-- value is one that its field can have, and not the one that it has to have. No more segments are counted than there can be.
abbrev pub may_come_from : Status → Words → Bool
may_come_from status.Done command = (command_of command).can_be
may_come_from (status.ScriptFault line place) command = (traits_of command).lines && (nat_le 1 line && nat_le line (most_items + 1))
may_come_from status.NoCartridge command = (traits_of command).cartridge
may_come_from status.NotFormatted command = (traits_of command).mounts
may_come_from status.Protected command = (traits_of command).writable
may_come_from status.BadPlace command = (traits_of command).sector
may_come_from status.NotBlank command = (traits_of command).blank
may_come_from (status.Foreign field value) command = (traits_of command).mounts && is_refused field value
may_come_from (status.Lost segment lost) command =
    (traits_of command).mounts && (are_too_many lost && (segment == 2 || ((traits_of command).restores && is_of_volume segment)))
may_come_from (status.DefectInFront segment) command = (traits_of command).formats && nat_lt segment 3
may_come_from status.TableMismatch command = (traits_of command).mounts
may_come_from (status.Full need have) command = (command_of command).is_full need have
may_come_from (status.NoVolume number count) command = (command_of command).is_no_volume number count
may_come_from (status.Unsound mendable bad) command =
    (traits_of command).checks && (nat_lt 0 (mendable + bad) && is_segment_count (mendable + bad))
may_come_from (status.Mismatch segment) command = (traits_of command).restores && is_of_volume segment
may_come_from answer command = false

-- where the source tells nothing, an input that gives volumes their bytes is one of bytes
abbrev pub IsOfBytes : Words → (told : Option (List ℕ)) → (input : List ℕ) → Type 0
IsOfBytes command told input = (traits_of command).appends ≡ true → IfNone told (All (λ b. b < 256) input)

-- ---- how a command ended

-- the input's fault is named, where one is answered, and Done comes only over an input without one
pub record NamesFault (command : Words) (input : List ℕ) (answer : Status) : Type 0 where
  pub named : (line place : ℕ) → answer ≡ status.ScriptFault line place → (command_of command).fault input line place
  pub none : answer ≡ status.Done → (line place : ℕ) → ¬ ((command_of command).fault input line place)

-- It was carried out or refused: all acts of its outcome went.
pub record Finished {T S K : Type 0} (t : tapes.Meaning T) (s : sources.Meaning S) (k : sinks.Meaning K) (command : Words)
    (old new : Outside T S K) (answer : Status) : Type 0 where
  pub outcome : CommandOutcome
  pub answered : answer ≡ outcome.status
  -- over what is told the plain machine's
  pub told : OverTold t s old (λ held input. IsOfBytes command (s.left old.source) input × (command_of command).yields held input outcome)
  pub went : Went t s k old new outcome.acts
  pub left : InputLeft answer outcome.taken (s.left old.source) (s.left new.source)
  -- and over any tape and source one that the command may have
  pub sound : may_come_from answer command ≡ true
  pub none_taken : (traits_of command).reads ≡ false → outcome.taken ≡ 0
  pub prints : (answer ≡ status.Done → (command_of command).prints (output_of outcome))
      × (answer ≢ status.Done → (command_of command).refused answer (output_of outcome))
  pub silent : (traits_of command).goes ≡ false → answer ≢ status.Done → new.sink ≡ old.sink
  -- where the source tells its bytes their fault is named, if one is
  pub fault : IfSome (s.left old.source) (λ input. NamesFault command input answer)

-- the acts that were done and written before the fault
abbrev pub acts_before : {T S K : Type 0} (t : tapes.Meaning T) (s : sources.Meaning S) (k : sinks.Meaning K) (old new : Outside T S K)
    (acts : List Act) (failing : Failing) → Cut t s k old new acts failing → List Act
acts_before t s k old new acts SinkFails cut = cut.at.front
acts_before t s k old new acts failing cut = cut.front

-- A fault of an object cut the acts of an outcome off, over this cartridge and this input, of which no more was taken than they
-- reach. A command that prints once all is done had printed nothing before;
-- where it is the sink's, it was carried out, and all steps were done.
pub record IsCutOff {T S K : Type 0} (t : tapes.Meaning T) (s : sources.Meaning S) (k : sinks.Meaning K) (command : Words)
    (held : Option Cartridge) (input : List ℕ) (old new : Outside T S K) (failing : Failing) (outcome : CommandOutcome) : Type 0 where
  pub cut : Cut t s k old new outcome.acts failing
  pub taken : ℕ
  pub left : s.left new.source ≡ option_map (drop taken) (s.left old.source)
  pub reaches : (command_of command).reaches held input outcome (acts_before t s k old new outcome.acts failing cut) taken
  pub done : failing ≡ SinkFails → (traits_of command).goes ≡ false →
      (outcome.status ≡ status.Done) × tapes.Done t old.tape new.tape (steps_of outcome.acts)
  pub silent : (traits_of command).goes ≡ false → text_of (acts_before t s k old new outcome.acts failing cut) ≡ []

-- A fault of an object of the outside cut it off, or came behind its last act.
pub record Stopped {T S K : Type 0} (t : tapes.Meaning T) (s : sources.Meaning S) (k : sinks.Meaning K) (command : Words)
    (old new : Outside T S K) (failing : Failing) : Type 0 where
  -- over what is told in the acts of the plain machine's outcome
  pub told : OverTold t s old (λ held input. IsOfBytes command (s.left old.source) input
      × ((outcome : CommandOutcome) → (command_of command).yields held input outcome →
      IsCutOff t s k command held input old new failing outcome))
  -- and over any tape and source in some that print a front of the command's text
  pub acts : List Act
  pub cut : Cut t s k old new acts failing
  pub front : (command_of command).fronts (text_of acts)
  pub silent : (traits_of command).goes ≡ false → failing ≢ SinkFails → new.sink ≡ old.sink
  pub reads : failing ≡ SourceFails → (traits_of command).reads ≡ true
  pub source_tells : is_some (s.left new.source) ≡ is_some (s.left old.source)

-- how a command ended
abbrev pub CommandEnds : {T S K : Type 0} (t : tapes.Meaning T) (s : sources.Meaning S) (k : sinks.Meaning K) (command : Words)
    (old new : Outside T S K) → Status → Type 0
CommandEnds t s k command old new answer =
    Finished t s k command old new answer
    ⊎ ((failing : Failing) × (answer ≡ fault_of failing) × Stopped t s k command old new failing)
