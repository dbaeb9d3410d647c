-- A run of trains as the code answers it, with what the drive is in then (this project's own).
use Rattle.std.specs.Prelude.{ℕ, List, [], ◌∷◌, Bool, codes, if◌then◌else◌, ◌≡◌, Option}
use Rattle.command_spec.specs.Input.{Ending, AtEnd, AtStop, AtFault, IsPulses}
use Rattle.command_spec.specs.Outcome.{CommandOutcome}
use Rattle.command_spec.specs.Pulses.{pulses_taken, train_acts}
use Rattle.command_spec.specs.declared.status.Status.{Status}
use Rattle.drive_spec.specs.Record.{Record, power_on}
use Rattle.qic_base.specs.Acts.{Act}
use Rattle.qic_base.specs.declared.tape.TapeInfo.{TapeInfo}
use Rattle.drive_spec.specs.Row.{pulsed_row}
use Rattle.drive_spec.specs.Steps.{train_changes}
use Rattle.command_spec.specs.declared.status.Status.TheVariants as status

-- the drive after several trains, each with its gap
abbrev pub after_trains : Record → (trains : List ℕ) → Record
after_trains r [] = r
after_trains r (train ∷ trains) = after_trains (pulsed_row r train) trains

-- the level of the track-0 line, as a line
abbrev pub level_line : Bool → List ℕ
level_line on = if on then codes "1\n" else codes "0\n"

-- what a train does
abbrev pub train_act : Record → (train : ℕ) → Act
train_act r train = record { steps = train_changes r train; text = level_line (pulsed_row r train).line }

-- the input's trains were all sent; or this line, counted from 1, is none, with so many bytes before it
pub data Answer : Type 0 where
  AllSent : Answer
  ScriptFault : ℕ → ℕ → Answer

-- the acts of its trains, what the drive is in then, how many bytes of the input were taken, at least so many where a
-- line is none, and the answer
pub record PulseRun : Type 0 where
  pub acts : List Act
  pub drive : Record
  pub taken : ℕ
  pub answer : Answer

abbrev pub pulses_answer : Ending → Answer
pulses_answer AtEnd = AllSent
pulses_answer AtStop = AllSent
pulses_answer (AtFault line place) = ScriptFault line place

-- what comes of an input with these trains and this ending, over a drive
abbrev pub outcome_of : Record → (input trains : List ℕ) → Ending → PulseRun
outcome_of r input trains ending = record {
  acts = train_acts r trains;
  drive = after_trains r trains;
  taken = pulses_taken input trains ending;
  answer = pulses_answer ending;
}

-- the outcome of an input, over what the drive knows of its cartridge once that was put in
pub record PulsesOutcome (known : Option TapeInfo) (input : List ℕ) (outcome : PulseRun) : Type 0 where
  pub trains : List ℕ
  pub ending : Ending
  pub read : IsPulses input trains ending
  pub comes : outcome ≡ outcome_of (power_on known) input trains ending

-- the answer of the command
abbrev pub sent_status : Answer → Status
sent_status AllSent = status.Done
sent_status (ScriptFault line place) = status.ScriptFault line place

-- .. and its outcome
abbrev pub sent : PulseRun → CommandOutcome
sent came = record { acts = came.acts; taken = came.taken; status = sent_status came.answer }
