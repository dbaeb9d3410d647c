-- The laws of the plain machine of `pulses`, as facts (this project's own).
use Rattle.std.specs.Prelude.{ℕ, List, Option, ◌≡◌, ◌+◌, ◌≤◌, ◌++◌, length, ◌⊎◌}
use Rattle.command_spec.specs.Input.{most_items, Ending, IsPulses, AtFault}
use Rattle.command_laws.specs.PulseRuns.{PulseRun, PulsesOutcome}
use Rattle.command_spec.specs.Pulses.{train_lines, train_acts}
use Rattle.drive_spec.specs.Record.{Record}
use Rattle.qic_base.specs.Acts.{steps_of}
use Rattle.qic_base.specs.Cartridge.{Cartridge}
use Rattle.qic_base.specs.Step.{SetReferenced, effect, Torn}
use Rattle.qic_base.specs.declared.tape.TapeInfo.{TapeInfo}

-- each input has an outcome, over each cartridge and none
abbrev pub PulsesHaveAnOutcome : Type 0
PulsesHaveAnOutcome = (known : Option TapeInfo) (input : List ℕ) → (outcome : PulseRun) × PulsesOutcome known input outcome

-- it has one
abbrev pub PulsesHaveOneOutcome : Type 0
PulsesHaveOneOutcome =
    (known : Option TapeInfo) (input : List ℕ) (a b : PulseRun) →
    PulsesOutcome known input a → PulsesOutcome known input b → a ≡ b

-- the input begins with the lines of its trains, of which there are at most 65,536
pub record BeginsWithLines (input trains : List ℕ) : Type 0 where
  pub rest : List ℕ
  pub lines : input ≡ train_lines trains ++ rest
  pub few : length trains ≤ most_items

abbrev pub TrainsAreLines : Type 0
TrainsAreLines =
    (input trains : List ℕ) (ending : Ending) → IsPulses input trains ending → BeginsWithLines input trains

-- a fault's line is the one behind the trains, and its place the number of bytes of their lines
pub record IsBehind (trains : List ℕ) (line place : ℕ) : Type 0 where
  pub number : line ≡ length trains + 1
  pub bytes : place ≡ length (train_lines trains)

abbrev pub FaultsAreBehind : Type 0
FaultsAreBehind =
    (input trains : List ℕ) (line place : ℕ) → IsPulses input trains (AtFault line place) → IsBehind trains line place

-- a list begins another
abbrev pub IsFront : {A : Type 0} → (front whole : List A) → Type 0
IsFront {A} front whole = (rest : List A) × (front ++ rest ≡ whole)

-- what a front of the trains does is a front of what they all do
abbrev pub FrontsDoFronts : Type 0
FrontsDoFronts = (r : Record) (sent trains : List ℕ) → IsFront sent trains → IsFront (train_acts r sent) (train_acts r trains)

-- a stop in trains, before them or behind them leaves the cartridge as it was, or referenced and else as it was
abbrev pub StopsLeave : Type 0
StopsLeave =
    (r : Record) (trains : List ℕ) (held left : Option Cartridge) → Torn (steps_of (train_acts r trains)) held left →
    (left ≡ held) ⊎ (left ≡ effect SetReferenced held)
