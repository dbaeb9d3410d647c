-- A run of `pulses`, line after line: the acts so far went, and then those of what is left went or were cut off.
use Rattle.std.proofs.Common.{◌≡◌, ◌≢◌, inl, inr, ℕ, ◌+◌, ◌*◌, ◌≤◌, ◌<◌, List, [], ◌∷◌, ◌++◌, length, Option, Some, None, IfSome, Result}
use Rattle.std.proofs.Common.{Ok, Err, codes, refl, sym, ap, ◌∙◌, subst, arith, append-nil}
use Rattle.std.proofs.lemmas.List.{length-append, length_push}
use Rattle.qic_base.specs.declared.tape.TapeInfo.{TapeInfo}
use Rattle.qic_base.specs.Cartridge.{Cartridge, info_of}
use Rattle.qic_base.proofs.Steps.{Done-told}
use Rattle.qic_base.proofs.Writing.{TakesBoth}
use Rattle.qic_base.specs.Acts.{Act, Outside, Failing, TapeFails, SourceFails, SinkFails, Went, Cut}
use Rattle.qic_base.proofs.Joins.{went_both}
use Rattle.drive_spec.specs.Record.{Record, power_on}
use Rattle.drive_states.specs.Unit.{UnitView, IsInserted}
use Rattle.command_spec.specs.Input.{IsPulse, Ending, AtEnd, AtStop, AtFault, ItemsEnd, HasItems, most_items}
use Rattle.qic_base.specs.SourceCalls.{Gave}
use Rattle.qic_base.proofs.Giving.{Gave-Gave, Gave-end, Gave-nothing}
use Rattle.command_laws.proofs.TextReadings.{each_pulses}
use Rattle.tape_script.proofs.Rests.{any_rest, ended_rest, stop_rest, whole_told, left_behind}
use Rattle.hand_commands.specs.declared.pulses.fault.PulseFault.{PulseFault}
use Rattle.command_spec.specs.Pulses.{train_acts, train_line, train_lines, pulses_taken}
use Rattle.command_laws.specs.PulseRuns.{train_act, after_trains, Answer, AllSent, ScriptFault, pulses_answer, outcome_of}
use Rattle.hand_commands.specs.PulseRuns.{Leaves, Ended, CutOff}
use Rattle.command_laws.proofs.CutFronts.{CutBehind, cut_longer, cut_then}
use Rattle.command_laws.specs.Inputs.{IsTrain}
use Rattle.command_spec.specs.Input.{ReachesLine}
use Rattle.command_spec.specs.Machine.{acts_before}
use Rattle.qic_base.specs.Source.{IsInput}
use Rattle.tape_script.proofs.Lined.{IsLined-one_newline}
use Rattle.tape_script.proofs.Reaching.{InLine, Took, front_in_line, in_line, none_of_line, took}
use Rattle.tape_script.specs.Reading.{GaveFront, GaveNoEnd}
use Rattle.hand_commands.specs.PulseLines.{Heard, HasNoTrain, Hears, HearsEnd}
use Rattle.hand_commands.proofs.Hearing.{rests, source_cut, steps_cut}
use Rattle.hand_commands.proofs.Inputs.{ArePulses, ArePulses-push, read_all, read_behind, comes_first, fault_rest}
use Rattle.command_laws.proofs.PulseMachineLaws.{fronts_do_fronts}
use Rattle.command_laws.proofs.PulseTrains.{after_trains-append, train_acts-append, train_lines-append, pulse_short, pulsed_row-counted}
use Rattle.drive_spec.specs.Row.{pulsed_row}
use Rattle.qic_base.specs.Sink as sinks
use Rattle.qic_base.specs.Source as sources
use Rattle.qic_base.specs.Tape as tapes
use Rattle.hand_commands.specs.declared.pulses.fault.PulseFault.TheVariants as fault
use Rattle.hand_commands.specs.PulseRuns as runs

-- one train more
abbrev push : List ℕ → ℕ → List ℕ
push ps p = ps ++ p ∷ []

train_lines-push : (ps : List ℕ) (p : ℕ) → train_lines ps ++ train_line p ≡ train_lines (push ps p)
train_lines-push ps p =
    ap (λ text. train_lines ps ++ text) (sym (append-nil (train_line p))) ∙ sym (train_lines-append ps (p ∷ []))

-- the cartridge that the tape tells is this
abbrev IsKnown : {T : Type 0} → tapes.Meaning T → T → Option TapeInfo → Type 0
IsKnown t tape known = IfSome (t.told tape) (λ held. known ≡ info_of held)

-- so many lines were trains, with so many bytes; the acts of all of them went
pub record SoFar {T S K : Type 0} (t : tapes.Meaning T) (s : sources.Meaning S) (k : sinks.Meaning K) (start now : Outside T S K)
    (r : Record) (lines place : ℕ) : Type 0 where
  pub known : Option TapeInfo
  pub cartridge : IsKnown t start.tape known
  pub trains : List ℕ
  pub are : ArePulses trains
  pub number : length trains ≡ lines
  pub bytes : place ≡ length (train_lines trains)
  pub short : place ≤ 128 * lines
  pub drive : r ≡ after_trains (power_on known) trains
  pub no_pulse : r.train ≡ 0
  pub went : Went t s k start now (train_acts (power_on known) trains)
  pub gave : Gave s start.source now.source (train_lines trains)

told_before : {T : Type 0} (t : tapes.Meaning T) (a b : T) (known : Option TapeInfo) → tapes.Done t a b [] → IsKnown t b known →
    IsKnown t a known
told_before t a b known did told =
    let P : Option (Option Cartridge) → Type 0 = λ o. IfSome o (λ held. known ≡ info_of held) in subst P (Done-told did) told

known_told : (told : Option (Option Cartridge)) → (known : Option TapeInfo) × IfSome told (λ held. known ≡ info_of held)
known_told None = (None, tt)
known_told (Some held) = (info_of held, refl)

-- these trains came before others
abbrev ComeFirst : Option TapeInfo → List Act → (trains : List ℕ) → Type 0
ComeFirst known done trains = (rest : List Act) × (done ≡ train_acts (power_on known) trains ++ rest)

-- The acts of trains that were read were cut off behind those of some: the lines of these had been given, and some bytes of the
-- line behind them.
record CutLine {T S K : Type 0} (t : tapes.Meaning T) (s : sources.Meaning S) (k : sinks.Meaning K) (start new : Outside T S K)
    (known : Option TapeInfo) (sent : List ℕ) (failing : Failing) : Type 0 where
  trains : List ℕ
  are : ArePulses trains
  few : length trains ≤ most_items
  mid : S
  gave : Gave s start.source mid (train_lines trains)
  came : List ℕ
  more : Gave s mid new.source came
  line : InLine came
  cut : CutBehind t s k start new (train_acts (power_on known) sent) failing (λ done. ComeFirst known done trains)

module _ {T S K : Type 0} {t : tapes.Meaning T} {s : sources.Meaning S} {k : sinks.Meaning K} where
  -- the cartridge was put in
  pub begin : (start : Outside T S K) (unit : UnitView T) → k.took start.sink [] start.sink → tapes.Done t start.tape unit.tape [] →
      IsInserted t unit →
      SoFar t s k start (record start { tape = unit.tape }) unit.drive 0 0
  begin start unit nothing did inserted = record {
    known = unit.drive.deck.cartridge;
    cartridge = told_before t start.tape unit.tape unit.drive.deck.cartridge did inserted.known.told;
    trains = [];
    are = tt;
    number = refl;
    bytes = refl;
    short = omega arith;
    drive = inserted.drive;
    no_pulse = ap (λ (x : Record). x.train) inserted.drive;
    went = record { did = did; wrote = record { took = nothing; later = omega arith }; source_later = omega arith };
    gave = Gave-nothing s start.source start.source refl;
  }

  -- trains that were read are a front of the input's
  cut_off : (start new : Outside T S K) (now : S) (known : Option TapeInfo) (sent : List ℕ) (failing : Failing) →
      IsKnown t start.tape known → ArePulses sent →
      length sent ≤ most_items → Gave s start.source now (train_lines sent) →
      CutLine t s k start new known sent failing →
      CutOff t s k start new failing
  cut_off start new now known sent failing cartridge are few gave off =
      let behind = any_rest (s.left now) in
      let input : List ℕ = train_lines sent ++ behind.rest in
      let reading = each_pulses input in
      let front = fronts_do_fronts (power_on known) sent reading.0
      (comes_first sent behind.rest 1 0 reading.0 reading.1.0 are (omega arith) reading.1.1) in
      let told : IsInput (s.left start.source) input = whole_told (s.left start.source) (s.left now)
      (train_lines sent) behind.rest gave behind.told in
      let R : List Act → Type 0 = λ done. ComeFirst known done off.trains in
      let cut : CutBehind t s k start new (train_acts (power_on known) reading.0) failing R =
      subst (λ (acts : List Act). CutBehind t s k start new acts failing R) front.1
      (cut_longer t s k start new (train_acts (power_on known) sent) front.0 failing R off.cut) in
      let done : List Act = acts_before t s k start new (train_acts (power_on known) reading.0) failing cut.0 in
      let far : Took IsPulse (ComeFirst known done) ReachesLine input (s.left start.source) (s.left new.source) =
      took IsPulse (ComeFirst known done) ReachesLine (s.left start.source) (s.left off.mid) (s.left new.source)
      (train_lines off.trains) off.came off.trains input told off.gave off.more (read_all off.trains off.are off.few) cut.1
      (done, refl) (λ rest. in_line off.came rest off.line) none_of_line in
      record {
        known = known;
        input = input;
        over = record { cartridge = cartridge; bytes = told };
        outcome = outcome_of (power_on known) input reading.0 reading.1.0;
        plain = record { trains = reading.0; ending = reading.1.0; read = reading.1.1; comes = refl };
        cut = cut.0;
        taken = far.taken;
        left = far.left;
        reaches = far.reaches;
      }

  -- the tape failed as the cartridge was put in
  pub insert_failed : (start : Outside T S K) (tape : T) → k.took start.sink [] start.sink → tapes.Broke t start.tape tape [] →
      CutOff t s k start (record start { tape = tape }) TapeFails
  insert_failed start tape nothing broke =
      let new : Outside T S K = record start { tape = tape } in
      let known = known_told (t.told start.tape) in
      let gave : Gave s start.source start.source [] = Gave-nothing s start.source start.source refl in
      let cut : Cut t s k start new [] TapeFails =
      steps_cut start new [] (omega arith) broke (record { took = nothing; later = omega arith }) in
      cut_off start new start.source known.0 [] TapeFails known.1 tt (omega arith) gave (record {
        trains = [];
        are = tt;
        few = omega arith;
        mid = start.source;
        gave = gave;
        came = [];
        more = gave;
        line = none_of_line [];
        cut = (cut, (acts_before t s k start new [] TapeFails cut, refl));
      })

  module _ (both : TakesBoth k) (start now new : Outside T S K) (r after : Record) (lines place : ℕ)
      (far : SoFar t s k start now r lines place) where
    -- the line of a train more was read
    gave_push : (train : ℕ) → Gave s now.source new.source (train_line train) →
        Gave s start.source new.source (train_lines (push far.trains train))
    gave_push train gave =
        subst (Gave s start.source new.source) (train_lines-push far.trains train)
        (Gave-Gave s start.source now.source new.source (train_lines far.trains) (train_line train) far.gave gave)

    -- its act went
    pub next : (n : ℕ) → Hears t s k now new r after (lines + 1) place (Ok (Some n)) → SoFar t s k start new after (lines + 1) (place + n)
    next n heard =
        let before : Record = after_trains (power_on far.known) far.trains in
        let drive : after ≡ pulsed_row before heard.train = heard.came.1 ∙ ap (λ (x : Record). pulsed_row x heard.train) far.drive in
        record {
          known = far.known;
          cartridge = far.cartridge;
          trains = push far.trains heard.train;
          are = ArePulses-push far.trains heard.train far.are heard.pulse;
          number = length_push far.trains heard.train ∙ ap (λ (m : ℕ). m + 1) far.number;
          bytes = (let e = far.bytes in let m = heard.came.0 in let l = length-append (train_lines far.trains) (train_line heard.train) in
              let p = ap length (train_lines-push far.trains heard.train) in omega arith);
          short = (let e = far.short in let m = heard.came.0 in let l = pulse_short (train_line heard.train) heard.train heard.pulse in
              omega arith);
          drive = drive ∙ sym (after_trains-append (power_on far.known) far.trains (heard.train ∷ []));
          no_pulse = ap (λ (x : Record). x.train) drive ∙ pulsed_row-counted before heard.train;
          went = subst (Went t s k start new) (sym (train_acts-append (power_on far.known) far.trains (heard.train ∷ [])))
              (went_both t s k both start now new (train_acts (power_on far.known) far.trains) (train_act before heard.train ∷ []) far.went
              (subst (λ (x : Record). Went t s k now new (train_act x heard.train ∷ [])) far.drive heard.came.2));
          gave = gave_push heard.train heard.gave;
        }

    -- ---- an end

    -- how the input ends behind the trains is how it ends
    ended_so : (rest : List ℕ) (ending : Ending) (answer : Answer) → lines ≤ most_items → Went t s k now new [] → after ≡ r →
        IfSome (s.left now.source) (λ bytes. bytes ≡ rest) → ItemsEnd IsPulse (lines + 1) place rest ending →
        pulses_answer ending ≡ answer →
        Leaves s start.source new.source (pulses_taken (train_lines far.trains ++ rest) far.trains ending) answer →
        Ended t s k start new after answer
    ended_so rest ending answer few none drive told ends answered left =
        let input : List ℕ = train_lines far.trains ++ rest in
        let acts : List Act = train_acts (power_on far.known) far.trains in
        let read : HasItems IsPulse 1 0 input (far.trains ++ []) ending =
        read_behind far.trains [] rest 1 (lines + 1) 0 place ending far.are (let n = far.number in omega arith)
        (let n = far.number in omega arith)
        (let b = far.bytes in omega arith) ends in
        let P : List ℕ → Type 0 = λ ps. HasItems IsPulse 1 0 input ps ending in
        record {
          known = far.known;
          input = input;
          over = record {
            cartridge = far.cartridge;
            bytes = whole_told (s.left start.source) (s.left now.source)
                (train_lines far.trains) rest far.gave told;
          };
          outcome = outcome_of (power_on far.known) input far.trains ending;
          plain = record { trains = far.trains; ending = ending; read = subst P (append-nil far.trains) read; comes = refl };
          answered = answered;
          drive = drive ∙ far.drive;
          went = subst (Went t s k start new) (append-nil acts) (went_both t s k both start now new acts [] far.went none);
          left = left;
        }

    -- the input is over
    pub over : lines ≤ most_items → Hears t s k now new r after (lines + 1) place (Ok None) → Ended t s k start new after AllSent
    over few (none, drive, inl end) =
        let behind = ended_rest (s.left now.source) end.0 in
        ended_so behind.rest AtEnd AllSent few none drive behind.told behind.has refl
        (left_behind (s.left start.source) (s.left new.source) (train_lines far.trains) (length (train_lines far.trains ++ behind.rest))
        (Gave-end s start.source now.source new.source (train_lines far.trains) far.gave end.1)
        (ap (λ rest. length (train_lines far.trains ++ rest)) behind.has ∙ ap length (append-nil (train_lines far.trains))))
    over few (none, drive, inr stop) =
        let behind = stop_rest (s.left now.source) (s.left new.source) stop in
        ended_so behind.rest AtStop AllSent few none drive behind.told behind.has refl
        (left_behind (s.left start.source) (s.left new.source) (train_lines far.trains ++ codes "end\n")
        (length (train_lines far.trains) + length (codes "end\n"))
        (Gave-Gave s start.source now.source new.source (train_lines far.trains) (codes "end\n") far.gave stop)
        (sym (length-append (train_lines far.trains) (codes "end\n"))))

    -- a line is none
    faulty : (number at : ℕ) → lines ≤ most_items → Went t s k now new [] → after ≡ r → number ≡ lines + 1 → at ≡ place →
        (on : GaveNoEnd s now.source new.source) →
        (lines + 1 ≤ most_items → HasNoTrain s now.source) → Ended t s k start new after (ScriptFault number at)
    faulty number at few none drive same equal on no_train =
        let behind = fault_rest (s.left now.source) (s.left new.source) (lines + 1) on.n on.gave.0 on.some on.gave.1 on.gave.2 on.no_stop
        no_train in
        ended_so behind.rest (AtFault number at) (ScriptFault number at) few none drive behind.told (behind.has, same, equal) refl (
          on.n,
          on.few,
          left_behind (s.left start.source) (s.left new.source) (train_lines far.trains ++ on.gave.0) (at + on.n)
              (Gave-Gave s start.source now.source new.source (train_lines far.trains) on.gave.0 far.gave on.gave.2)
              (let b = far.bytes in let l = length-append (train_lines far.trains) on.gave.0 in let g = on.gave.1 in omega arith),
        )

    -- the source failed
    source_failed : lines ≤ most_items → Cut t s k now new [] SourceFails → GaveFront s now.source new.source →
        CutOff t s k start new SourceFails
    source_failed few cut front =
        let acts : List Act = train_acts (power_on far.known) far.trains in
        let R : List Act → Type 0 = λ done. ComeFirst far.known done far.trains in
        let fewer : length far.trains ≤ most_items = (let n = far.number in omega arith) in
        cut_off start new now.source far.known far.trains SourceFails far.cartridge far.are fewer far.gave (record {
          trains = far.trains;
          are = far.are;
          few = fewer;
          mid = now.source;
          gave = far.gave;
          came = front.0;
          more = front.3;
          line = front_in_line front.0 front.1 front.2;
          cut = subst (λ (xs : List Act). CutBehind t s k start new xs SourceFails R) (append-nil acts)
              (cut_then t s k both start now new acts [] SourceFails (λ done. Unit {0}) R far.went (cut, tt) (λ done any. (done, refl)));
        })

    -- the act of a train was cut off
    act_failed : (failing : Failing) → lines < most_items →
        Heard s now.source new.source (λ train. Cut t s k now new (train_act r train ∷ []) failing) →
        CutOff t s k start new failing
    act_failed failing few heard =
        let before : Record = after_trains (power_on far.known) far.trains in
        let acts : List Act = train_acts (power_on far.known) far.trains in
        let R : List Act → Type 0 = λ done. ComeFirst far.known done far.trains in
        let cut : Cut t s k now new (train_act before heard.train ∷ []) failing =
        subst (λ (x : Record). Cut t s k now new (train_act x heard.train ∷ []) failing) far.drive heard.came in
        cut_off start new new.source far.known (push far.trains heard.train) failing far.cartridge
        (ArePulses-push far.trains heard.train far.are heard.pulse)
        (let n = far.number in let l = length_push far.trains heard.train in omega arith) (gave_push heard.train heard.gave) (record {
          trains = far.trains;
          are = far.are;
          few = let n = far.number in omega arith;
          mid = now.source;
          gave = far.gave;
          came = train_line heard.train;
          more = heard.gave;
          line = (
            pulse_short (train_line heard.train) heard.train heard.pulse,
            IsLined-one_newline (λ text. IsTrain text heard.train) (train_line heard.train) (length (train_line heard.train)) refl
                heard.pulse,
          );
          cut = subst (λ (xs : List Act). CutBehind t s k start new xs failing R)
              (sym (train_acts-append (power_on far.known) far.trains (heard.train ∷ [])))
              (cut_then t s k both start now new acts (train_act before heard.train ∷ []) failing (λ done. Unit {0}) R far.went (cut, tt)
              (λ done any. (done, refl)));
        })

    -- how a line ended it
    pub line_failed : lines < most_items → (why : PulseFault) → Hears t s k now new r after (lines + 1) place (Err why) →
        runs.PulsesEnd t s k start new after (Err why)
    line_failed few (fault.Script number at) hears = faulty number at (omega arith) hears.0 hears.1 hears.2 hears.3 hears.4
        (λ within. hears.5)
    line_failed few fault.Source hears = source_failed (omega arith) hears.0 hears.1
    line_failed few fault.Sink hears = act_failed SinkFails few hears
    line_failed few fault.Tape hears = act_failed TapeFails few hears

  -- how the line behind the last train ended it
  pub end_came : TakesBoth k → (start now : Outside T S K) (r : Record) (source : S) (lines place : ℕ)
      (far : SoFar t s k start now r lines place) → lines ≡ most_items →
      k.took now.sink [] now.sink → (result : Result (Unit {0}) PulseFault) → s.faults now.source ≤ s.faults source →
      (result ≢ Err fault.Source → s.faults source ≡ s.faults now.source) → HearsEnd s now.source source (most_items + 1) place result →
      runs.PulsesEnd t s k start (record now { source = source }) r result
  end_came both start now r source lines place far all nothing (Ok done) later stood hears =
      over both start now (record now { source = source }) r r lines place far (omega arith)
      (rests now source nothing (stood (λ e. cc)), refl, hears)
  end_came both start now r source lines place far all nothing (Err (fault.Script number at)) later stood hears =
      faulty both start now (record now { source = source }) r r lines place far number at (omega arith)
      (rests now source nothing (stood (λ e. cc))) refl
      (hears.0 ∙ ap (λ (n : ℕ). n + 1) (sym all)) hears.1 hears.2 (λ within. absurd (omega arith))
  end_came both start now r source lines place far all nothing (Err fault.Source) later stood hears =
      source_failed both start now (record now { source = source }) r r lines place far (omega arith)
      (source_cut now source nothing later hears.0) hears.1
  end_came both start now r source lines place far all nothing (Err fault.Sink) later stood hears = absurd hears
  end_came both start now r source lines place far all nothing (Err fault.Tape) later stood hears = absurd hears
