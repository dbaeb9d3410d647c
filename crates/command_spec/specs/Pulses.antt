-- The plain machine of `pulses`: the trains of an input, and the levels that they leave (this project's own).
use Rattle.std.specs.Prelude.{ℕ, List, [], ◌∷◌, if◌then◌else◌, codes, ◌+◌, ◌++◌, decimal, length, ◌≡◌, Option, ◌⊎◌, true}
use Rattle.command_spec.specs.Input.{Ending, AtEnd, AtStop, AtFault, IsPulse, IsPulses, input_status, Reaches, ReachesLine}
use Rattle.command_spec.specs.Outcome.{CommandOutcome}
use Rattle.drive_spec.specs.Record.{Record, power_on}
use Rattle.drive_spec.specs.Row.{pulsed_row}
use Rattle.drive_spec.specs.Steps.{train_changes}
use Rattle.qic_base.specs.Acts.{Act, text_of}
use Rattle.qic_base.specs.Cartridge.{Cartridge, info_of}
use Rattle.qic_base.specs.declared.tape.TapeInfo.{TapeInfo}
use Rattle.command_spec.specs.Command.{Command, plain_command, none_of_them, Word}

-- ---- trains

-- What trains do, one after the other: to the cartridge, which is referenced where a train 16 was accepted; and then the
-- level of the track-0 line that each leaves is printed.
abbrev pub train_acts : Record → (trains : List ℕ) → List Act
train_acts r [] = []
train_acts r (train ∷ trains) =
    record { steps = train_changes r train; text = if (pulsed_row r train).line then codes "1\n" else codes "0\n" }
    ∷ train_acts (pulsed_row r train) trains

-- ---- the input

-- the line of a train: the number, and a newline
unfoldable pub train_line : (train : ℕ) → List ℕ
train_line train = decimal train ++ 0x0A ∷ []

-- the lines of several
abbrev pub train_lines : (trains : List ℕ) → List ℕ
train_lines [] = []
train_lines (train ∷ trains) = train_line train ++ train_lines trains

-- ---- the outcome

-- all bytes are taken; or those of the trains and of the line `end`; or those before the line that is none
abbrev pub pulses_taken : (input trains : List ℕ) → Ending → ℕ
pulses_taken input trains AtEnd = length input
pulses_taken input trains AtStop = length (train_lines trains) + length (codes "end\n")
pulses_taken input trains (AtFault line place) = place

-- `pulses` needs no cartridge: the drive goes by what it knows of the one that was put in, if one was. At most 65,536
-- lines are trains.
pub record SentOutcome (held : Option Cartridge) (input : List ℕ) (outcome : CommandOutcome) : Type 0 where
  pub trains : List ℕ
  pub ending : Ending
  pub read : IsPulses input trains ending
  pub is : outcome ≡ record {
    acts = train_acts (power_on (info_of held)) trains;
    taken = pulses_taken input trains ending;
    status = input_status ending;
  }

-- the levels of some trains, over some cartridge or none
abbrev pub AreLevels : List ℕ → Type 0
AreLevels text = (known : Option TapeInfo) × ((trains : List ℕ) × (text ≡ text_of (train_acts (power_on known) trains)))

-- ---- the command

-- The drive shows its levels without a cartridge, and those of the trains before a fault of the input: the lines of trains go up to
-- the end of the input or to the line `end`.
abbrev pub pulses_command : Command
pulses_command = record (plain_command ((Word (codes "pulses") ∷ []) ∷ []) SentOutcome AreLevels) {
  traits = record none_of_them { reads = true; lines = true; goes = true };
  refused = λ answer text. AreLevels text;
  reaches = λ held input outcome done taken. Reaches IsPulse
      (λ trains. (rest : List Act) × (done ≡ train_acts (power_on (info_of held)) trains ++ rest)) ReachesLine input taken;
  fault = λ input line place. (trains : List ℕ) × IsPulses input trains (AtFault line place);
  needs = λ held input. (trains : List ℕ) × (IsPulses input trains AtEnd ⊎ IsPulses input trains AtStop);
}
