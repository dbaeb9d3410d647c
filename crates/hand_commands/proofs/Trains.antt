-- How `pulses` ended, by how the sending of its trains did.
use Rattle.std.proofs.Common.{◌≡◌, ℕ, true, List, [], Option, Some, None, IfSome, Result, Ok, Err, refl, sym, ap, ◌∙◌, subst, inl, inr}
use Rattle.std.proofs.Common.{append-nil, ◌++◌}
use Rattle.std.specs.Prelude.{is_some}
use Rattle.qic_base.specs.Cartridge.{Cartridge, info_of}
use Rattle.qic_base.specs.declared.tape.TapeInfo.{TapeInfo}
use Rattle.qic_base.specs.Sink as sinks
use Rattle.qic_base.specs.Source as sources
use Rattle.qic_base.specs.Tape as tapes
use Rattle.qic_base.specs.Acts.{Act, text_of, Outside, Failing, TapeFails, SourceFails, SinkFails}
use Rattle.drive_spec.specs.Record.{Record, power_on}
use Rattle.command_spec.specs.declared.words.Words.TheVariants as words
use Rattle.command_spec.specs.Input.{IsPulse, Ending, AtEnd, AtStop, AtFault, IsPulses, Reaches, ReachesLine}
use Rattle.command_laws.proofs.CommandTold.{told_input}
use Rattle.command_laws.proofs.CutFronts.{CutBehind}
use Rattle.command_laws.proofs.TextFaults.{fault_line}
use Rattle.command_laws.proofs.TextInputs as inputs
use Rattle.hand_commands.specs.declared.pulses.fault.PulseFault.{PulseFault}
use Rattle.hand_commands.specs.declared.pulses.fault.PulseFault.TheVariants as fault
use Rattle.command_laws.specs.PulseRuns.{PulseRun, PulsesOutcome, Answer, AllSent, ScriptFault, pulses_answer, sent_status, sent}
use Rattle.hand_commands.specs.PulseRuns as runs
use Rattle.command_laws.proofs.PulseMachineLaws.{one_outcome, run_of, sends_of}
use Rattle.command_spec.specs.declared.status.Status.{Status}
use Rattle.command_spec.specs.declared.status.Status.TheVariants as status
use Rattle.command_spec.specs.Outcome.{CommandOutcome}
use Rattle.command_spec.specs.Pulses.{SentOutcome, AreLevels, train_acts}
use Rattle.command_spec.specs.Machine.{InputLeft, fault_of, may_come_from, NamesFault, IsOfBytes, IsCutOff, CommandEnds, acts_before}
use Rattle.qic_base.specs.Source.{IsInput}

-- ---- the fault of an input

fault_ended : (ending : Ending) (line place : ℕ) → pulses_answer ending ≡ ScriptFault line place → ending ≡ AtFault line place
fault_ended AtEnd line place is = cc
fault_ended AtStop line place is = cc
fault_ended (AtFault number before) line place is = cc

answer_named : (answer : Answer) (line place : ℕ) → sent_status answer ≡ status.ScriptFault line place → answer ≡ ScriptFault line place
answer_named AllSent line place is = cc
answer_named (ScriptFault number before) line place is = cc

answer_done : (answer : Answer) → sent_status answer ≡ status.Done → answer ≡ AllSent
answer_done AllSent is = refl
answer_done (ScriptFault number before) is = cc

names_fault : (known : Option TapeInfo) (input : List ℕ) (came : PulseRun) (answer : Answer) → PulsesOutcome known input came →
    came.answer ≡ answer →
    NamesFault words.Pulses input (sent_status answer)
names_fault known input came answer plain is =
    let ends : came.answer ≡ pulses_answer plain.ending = ap (λ (o : PulseRun). o.answer) plain.comes in record {
      named = λ line place same. (
        plain.trains,
        subst (IsPulses input plain.trains) (fault_ended plain.ending line place (sym ends ∙ is ∙ answer_named answer line place same))
            plain.read,
      );
      none = λ done line place fault.
          let same = inputs.one_reading IsPulse inputs.pulses 1 0 input plain.trains fault.0 plain.ending
          (AtFault line place) plain.read fault.1 in
          let other : pulses_answer plain.ending ≡ ScriptFault line place = ap pulses_answer same.1 in
          let all : answer ≡ AllSent = answer_done answer done in
          cc;
    }

-- ---- over what is told

over_known : (told : Option (Option Cartridge)) (left : Option (List ℕ)) (known : Option TapeInfo) (input : List ℕ)
    (P : Option Cartridge → List ℕ → Type 0) →
    IfSome told (λ held. known ≡ info_of held) → IsInput left input → ((held : Option Cartridge) → known ≡ info_of held → P held input) →
    IfSome told (λ held. (input : List ℕ) × IsInput left input × P held input)
over_known None left known input P cartridge bytes follows = tt
over_known (Some held) left known input P cartridge bytes follows = (input, bytes, follows held cartridge)

-- a line at fault is one of those that an input may have
sound_answer : (known : Option TapeInfo) (input : List ℕ) (came : PulseRun) (answer : Answer) → PulsesOutcome known input came →
    came.answer ≡ answer →
    may_come_from (sent_status answer) words.Pulses ≡ true
sound_answer known input came AllSent plain is = refl
sound_answer known input came (ScriptFault line place) plain is =
    fault_line IsPulse 0 input plain.trains line place
    (subst (IsPulses input plain.trains) (fault_ended plain.ending line place (sym (ap (λ (o : PulseRun). o.answer) plain.comes) ∙ is))
    plain.read)

-- a result with no value
abbrev of_unit : Result (Unit {0}) PulseFault → Result (Unit {0}) PulseFault
of_unit result = result

-- the answer to a run
abbrev pub answered : Result (Unit {0}) PulseFault → Status
answered (Ok done) = status.Done
answered (Err (fault.Script line place)) = status.ScriptFault line place
answered (Err fault.Source) = status.SourceFault
answered (Err fault.Sink) = status.SinkFault
answered (Err fault.Tape) = status.TapeFault

-- an outcome over what the drive knows is the one that came
same_acts : (known : Option TapeInfo) (held : Option Cartridge) (input : List ℕ) (came : PulseRun) (outcome : CommandOutcome) →
    known ≡ info_of held →
    PulsesOutcome known input came → SentOutcome held input outcome → came.acts ≡ outcome.acts
same_acts known held input came outcome same plain sends =
    let run = run_of held input outcome sends in
    ap (λ (o : PulseRun). o.acts) (one_outcome (info_of held) input came run.0
    (subst (λ (k : Option TapeInfo). PulsesOutcome k input came) same plain) run.1)
    ∙ sym (ap (λ (o : CommandOutcome). o.acts) run.2)

module _ {T S K : Type 0} (t : tapes.Meaning T) (s : sources.Meaning S) (k : sinks.Meaning K) (old new : Outside T S K) (r : Record) where
  left_behind : (taken : ℕ) (answer : Answer) → runs.Leaves s old.source new.source taken answer → InputLeft (sent_status answer) taken
      (s.left old.source) (s.left new.source)
  left_behind taken AllSent left = left
  left_behind taken (ScriptFault line place) left = (left.0, left.2, inl left.1)

  ended : (answer : Answer) → runs.Ended t s k old new r answer → CommandEnds t s k words.Pulses old new (sent_status answer)
  ended answer run =
      let levels : AreLevels (text_of run.outcome.acts) =
      (run.known, (run.plain.trains, ap (λ (o : PulseRun). text_of o.acts) run.plain.comes)) in
      inl (record {
        outcome = sent run.outcome;
        answered = sym (ap sent_status run.answered);
        told = over_known (t.told old.tape) (s.left old.source) run.known run.input
            (λ held input. IsOfBytes words.Pulses (s.left old.source) input × SentOutcome held input (sent run.outcome))
            run.over.cartridge run.over.bytes
            (λ held same. (
              λ is. absurd (cc),
              sends_of held run.input run.outcome
                  (subst (λ (known : Option TapeInfo). PulsesOutcome known run.input run.outcome) same run.plain),
            ));
        went = run.went;
        left = left_behind run.outcome.taken answer run.left;
        sound = sound_answer run.known run.input run.outcome answer run.plain run.answered;
        none_taken = λ blind. absurd (cc);
        prints = ((λ is. levels), (λ other. levels));
        silent = λ still other. absurd (cc);
        fault = told_input (s.left old.source) run.input (λ input. NamesFault words.Pulses input (sent_status answer)) run.over.bytes
            (names_fault run.known run.input run.outcome answer run.plain run.answered);
      })

  -- the trains before the fault, on the drive that the cartridge makes
  abbrev Reached : (held : Option Cartridge) (failing : Failing) (input : List ℕ) (taken : ℕ) → List Act → Type 0
  Reached held failing input taken done = Reaches IsPulse
      (λ trains. (rest : List Act) × (done ≡ train_acts (power_on (info_of held)) trains ++ rest)) ReachesLine input taken

  reaching : (held : Option Cartridge) (failing : Failing) (run : runs.CutOff t s k old new failing) (outcome : CommandOutcome) →
      run.outcome.acts ≡ outcome.acts → run.known ≡ info_of held →
      CutBehind t s k old new outcome.acts failing (Reached held failing run.input run.taken)
  reaching held failing run outcome acts same =
      subst (λ (xs : List Act). CutBehind t s k old new xs failing (Reached held failing run.input run.taken)) acts (
        run.cut,
        subst (λ (known : Option TapeInfo). Reaches IsPulse
            (λ trains. (rest : List Act)
            × (acts_before t s k old new run.outcome.acts failing run.cut ≡ train_acts (power_on known) trains ++ rest))
            ReachesLine run.input run.taken) same run.reaches,
      )

  cut_off : (failing : Failing) → runs.CutOff t s k old new failing → is_some (s.left new.source) ≡ is_some (s.left old.source) →
      CommandEnds t s k words.Pulses old new (fault_of failing)
  cut_off failing run tells = inr (
    failing,
    refl,
    record {
      told = over_known (t.told old.tape) (s.left old.source) run.known run.input
          (λ held input. IsOfBytes words.Pulses (s.left old.source) input
          × ((outcome : CommandOutcome) → SentOutcome held input outcome → IsCutOff t s k words.Pulses held input old new failing outcome))
          run.over.cartridge run.over.bytes
          (λ held same. (
            λ is. absurd (cc),
            λ outcome plain.
                let acts : run.outcome.acts ≡ outcome.acts =
                same_acts run.known held run.input run.outcome outcome same run.plain plain in
                let off = reaching held failing run outcome acts same in
                record {
                  cut = off.0;
                  taken = run.taken;
                  left = run.left;
                  reaches = off.1;
                  done = λ sink still. absurd (cc);
                  silent = λ still. absurd (cc);
                },
          ));
      acts = run.outcome.acts;
      cut = run.cut;
      front = (
        [],
        subst AreLevels (sym (append-nil (text_of run.outcome.acts)))
            (run.known, (run.plain.trains, ap (λ (o : PulseRun). text_of o.acts) run.plain.comes)),
      );
      silent = λ still other. absurd (cc);
      reads = λ same. refl;
      source_tells = tells;
    },
  )

  pub pulses_end : (result : Result (Unit {0}) PulseFault) → runs.PulsesEnd t s k old new r result → is_some (s.left new.source) ≡ is_some
      (s.left old.source) →
      CommandEnds t s k words.Pulses old new (answered result)
  pulses_end (Ok done) run tells = ended AllSent run
  pulses_end (Err (fault.Script line place)) run tells = ended (ScriptFault line place) run
  pulses_end (Err fault.Source) run tells = cut_off SourceFails run tells
  pulses_end (Err fault.Sink) run tells = cut_off SinkFails run tells
  pulses_end (Err fault.Tape) run tells = cut_off TapeFails run tells

  pub pulses_failed : (f is : PulseFault) → f ≡ is → runs.PulsesEnd t s k old new r (of_unit (Err f)) →
      is_some (s.left new.source) ≡ is_some (s.left old.source) →
      CommandEnds t s k words.Pulses old new (answered (Err is))
  pulses_failed f is same run tells = subst (λ (g : PulseFault). CommandEnds t s k words.Pulses old new (answered (Err g))) same
      (pulses_end (Err f) run tells)
