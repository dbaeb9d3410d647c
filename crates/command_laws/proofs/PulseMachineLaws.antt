-- The laws of the plain machine of `pulses`.
use Rattle.std.proofs.Common.{Option, refl, sym, ap, ◌∙◌, ◌≡◌, ℕ, ◌+◌, ◌≤◌, List, [], ◌∷◌, ◌++◌, length, arith, append_assoc}
use Rattle.std.proofs.lemmas.List.{length-append}
use Rattle.command_laws.proofs.PulseTrains.{pulse_line, train_acts-append}
use Rattle.command_laws.proofs.TextInputs.{one_reading, pulses}
use Rattle.command_laws.proofs.TextReadings.{each_pulses}
use Rattle.command_laws.specs.PulseLaws.{PulsesHaveAnOutcome, PulsesHaveOneOutcome, TrainsAreLines, FaultsAreBehind, FrontsDoFronts}
use Rattle.command_spec.specs.Input.{IsPulse, Ending, HasItems, most_items, AtEnd, AtStop, AtFault, input_status}
use Rattle.command_spec.specs.Outcome.{CommandOutcome}
use Rattle.command_laws.specs.PulseRuns.{PulseRun, PulsesOutcome, outcome_of, after_trains, pulses_answer, sent, sent_status}
use Rattle.command_spec.specs.Pulses.{SentOutcome, pulses_taken, train_line, train_lines, train_acts}
use Rattle.command_spec.specs.declared.status.Status.{Status}
use Rattle.drive_spec.specs.Record.{power_on}
use Rattle.qic_base.specs.Acts.{Act}
use Rattle.qic_base.specs.Cartridge.{Cartridge, info_of}

pub each_outcome : PulsesHaveAnOutcome
each_outcome known input =
    let reading = each_pulses input in (
      outcome_of (power_on known) input reading.0 reading.1.0,
      record { trains = reading.0; ending = reading.1.0; read = reading.1.1; comes = refl },
    )

pub one_outcome : PulsesHaveOneOutcome
one_outcome known input a b first second =
    let same = one_reading IsPulse pulses 1 0 input first.trains second.trains first.ending second.ending first.read second.read in
    first.comes ∙ ap (λ ps. outcome_of (power_on known) input ps first.ending) same.0
    ∙ ap (λ (e : Ending). outcome_of (power_on known) input second.trains e) same.1 ∙ sym second.comes

-- the answer by what ended the input
status_is : (ending : Ending) → input_status ending ≡ sent_status (pulses_answer ending)
status_is AtEnd = refl
status_is AtStop = refl
status_is (AtFault line place) = refl

abbrev answered : (acts : List Act) (taken : ℕ) → Status → CommandOutcome
answered acts taken why = record { acts = acts; taken = taken; status = why }

-- what the command does is a run of trains, ..
pub run_of : (held : Option Cartridge) (input : List ℕ) (outcome : CommandOutcome) → SentOutcome held input outcome →
    (came : PulseRun) × PulsesOutcome (info_of held) input came × (outcome ≡ sent came)
run_of held input outcome sends = (
  outcome_of (power_on (info_of held)) input sends.trains sends.ending,
  record { trains = sends.trains; ending = sends.ending; read = sends.read; comes = refl },
  sends.is ∙ ap (answered (train_acts (power_on (info_of held)) sends.trains) (pulses_taken input sends.trains sends.ending))
      (status_is sends.ending),
)

-- .. and each run of trains is what the command does
pub sends_of : (held : Option Cartridge) (input : List ℕ) (came : PulseRun) → PulsesOutcome (info_of held) input came →
    SentOutcome held input (sent came)
sends_of held input came plain = record {
  trains = plain.trains;
  ending = plain.ending;
  read = plain.read;
  is = ap sent plain.comes
      ∙ sym (ap (answered (train_acts (power_on (info_of held)) plain.trains) (pulses_taken input plain.trains plain.ending))
      (status_is plain.ending));
}

-- from any line on
lines_begin : (line place : ℕ) (input trains : List ℕ) (ending : Ending) → line ≤ most_items + 1 →
    HasItems IsPulse line place input trains ending →
    (rest : List ℕ) × (input ≡ train_lines trains ++ rest) × (line + length trains ≤ most_items + 1)
lines_begin line place input [] ending few read = (input, refl, omega arith)
lines_begin line place input (p ∷ ps) ending few read =
    let text = read.1.0 in
    let behind = read.1.1.0 in
    let next = lines_begin (line + 1) (place + length text) behind ps ending (let within = read.0 in omega arith) read.1.1.1.2 in (
      next.0,
      read.1.1.1.0 ∙ ap (λ t. t ++ behind) (pulse_line text p read.1.1.1.1) ∙ ap (λ t. train_line p ++ t) next.1
          ∙ sym (append_assoc (train_line p) (train_lines ps) next.0),
      let l = next.2 in omega arith,
    )

pub trains_are_lines : TrainsAreLines
trains_are_lines input trains ending read =
    let begins = lines_begin 1 0 input trains ending (omega arith) read in
    record { rest = begins.0; lines = begins.1; few = let l = begins.2 in omega arith }

fault_behind : (line place : ℕ) (input trains : List ℕ) (number before : ℕ) → HasItems IsPulse line place input trains
    (AtFault number before) →
    (number ≡ line + length trains) × (before ≡ place + length (train_lines trains))
fault_behind line place input [] number before read = (let e = read.1 in omega arith, let e = read.2 in omega arith)
fault_behind line place input (p ∷ ps) number before read =
    let text = read.1.0 in
    let next = fault_behind (line + 1) (place + length text) read.1.1.0 ps number before read.1.1.1.2 in
    let l = ap length (pulse_line text p read.1.1.1.1) in
    let m = length-append (train_line p) (train_lines ps) in
    (let e = next.0 in omega arith, let e = next.1 in omega arith)

pub faults_are_behind : FaultsAreBehind
faults_are_behind input trains line place read =
    let behind = fault_behind 1 0 input trains line place read in
    record { number = let e = behind.0 in omega arith; bytes = let e = behind.1 in omega arith }

pub fronts_do_fronts : FrontsDoFronts
fronts_do_fronts r sent trains front =
    (train_acts (after_trains r sent) front.0, sym (train_acts-append r sent front.0) ∙ ap (train_acts r) front.1)
