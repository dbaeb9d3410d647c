-- What one line of the input did to the outside (this project's own).
use Rattle.std.specs.Prelude.{◌≡◌, ℕ, [], ◌∷◌, length, Option, Some, None, Result, Ok, Err}
use Rattle.qic_base.specs.Tape.{Rose}
use Rattle.qic_base.specs.Acts.{Outside, TapeFails, SourceFails, SinkFails, Went, Cut}
use Rattle.drive_spec.specs.Record.{Record}
use Rattle.command_spec.specs.Input.{IsPulse}
use Rattle.qic_base.specs.SourceCalls.{Gave}
use Rattle.tape_script.specs.Reading.{BeginsWithNo, GaveEnd, GaveFront, GaveNoEnd}
use Rattle.hand_commands.specs.declared.pulses.fault.PulseFault.{PulseFault}
use Rattle.command_spec.specs.Pulses.{train_line}
use Rattle.command_laws.specs.PulseRuns.{train_act}
use Rattle.drive_spec.specs.Row.{pulsed_row}
use Rattle.qic_base.specs.Sink as sinks
use Rattle.qic_base.specs.Source as sources
use Rattle.qic_base.specs.Tape as tapes
use Rattle.hand_commands.specs.declared.pulses.fault.PulseFault.TheVariants as fault

-- ---- the source

-- it gave the line of a train, of which this came
pub record Heard {S : Type 0} (s : sources.Meaning S) (old new : S) (Came : ℕ → Type 0) : Type 0 where
  pub train : ℕ
  pub pulse : IsPulse (train_line train) train
  pub gave : Gave s old new (train_line train)
  pub came : Came train

-- no train's line begins what is left
abbrev pub HasNoTrain : {S : Type 0} (s : sources.Meaning S) → S → Type 0
HasNoTrain s old = (train : ℕ) → BeginsWithNo s old (λ text. IsPulse text train)

-- ---- a line

-- What a line did that may be a train, with this number and so many bytes before it, and with the drive before and
-- after: it was a train's, of so many bytes, whose act went; the input is over; it is none; or a fault of the outside
-- cut it off.
abbrev pub Hears : {T S K : Type 0} (t : tapes.Meaning T) (s : sources.Meaning S) (k : sinks.Meaning K) (old new : Outside T S K)
    (before after : Record) (line place : ℕ) → Result (Option ℕ) PulseFault → Type 0
Hears t s k old new before after line place (Ok (Some n)) =
    Heard s old.source new.source (λ train.
    (n ≡ length (train_line train)) × (after ≡ pulsed_row before train) × Went t s k old new (train_act before train ∷ []))
Hears t s k old new before after line place (Ok None) =
    Went t s k old new [] × (after ≡ before) × GaveEnd s old.source new.source
Hears t s k old new before after line place (Err (fault.Script number at)) =
    Went t s k old new [] × (after ≡ before) × (number ≡ line) × (at ≡ place) × GaveNoEnd s old.source new.source × HasNoTrain s old.source
Hears t s k old new before after line place (Err fault.Source) =
    Cut t s k old new [] SourceFails × GaveFront s old.source new.source
Hears t s k old new before after line place (Err fault.Sink) =
    Heard s old.source new.source (λ train. Cut t s k old new (train_act before train ∷ []) SinkFails)
Hears t s k old new before after line place (Err fault.Tape) =
    Heard s old.source new.source (λ train. Cut t s k old new (train_act before train ∷ []) TapeFails)

-- what the line did behind the last that may be a train
abbrev pub HearsEnd : {S : Type 0} (s : sources.Meaning S) (old new : S) (line place : ℕ) → Result (Unit {0}) PulseFault → Type 0
HearsEnd s old new line place (Ok done) = GaveEnd s old new
HearsEnd s old new line place (Err (fault.Script number at)) = (number ≡ line) × (at ≡ place) × GaveNoEnd s old new
HearsEnd s old new line place (Err fault.Source) = Rose (s.faults old) (s.faults new) × GaveFront s old new
HearsEnd s old new line place (Err fault.Sink) = ⊥
HearsEnd s old new line place (Err fault.Tape) = ⊥
