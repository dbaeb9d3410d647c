-- How the restoring and summing of a volume ended, as a step of a run.
use Rattle.std.proofs.Common.{◌≡◌, ℕ, zero, suc, ◌+◌, ◌%◌, ◌^◌, ◌<◌, ◌≤◌, false, List, [], ◌∷◌, ◌++◌, length, sum, Some, None}
use Rattle.std.proofs.Common.{slice_get, Result, Ok, Err, refl, sym, ap, ◌∙◌, subst, arith, append-nil}
use Rattle.qic_base.specs.Cartridge.{Cartridge}
use Rattle.qic_base.specs.Step.{Step, effects, Torn}
use Rattle.qic_base.specs.declared.sink.SinkFailed.{SinkFailed}
use Rattle.qic_base.proofs.Steps.{Tells-map}
use Rattle.qic_base.specs.Acts.{Act, steps_of, text_of, next_steps, Failing, TapeFails, SinkFails, Cut}
use Rattle.qic_base.specs.Alone.{no_source, around}
use Rattle.qic_base.proofs.Joins.{steps_of-append, sink_cut_one}
use Rattle.cartridge_spec.specs.Table.{Entry}
use Rattle.cartridge_spec.specs.Volumes.{volume_length}
use Rattle.command_spec.specs.Restore.{Piece, GivingEnd, Restored, LostIn, MismatchIn, Restores, pieces, volume_at, ending_status}
use Rattle.command_laws.proofs.RestoreCounts.{restores_in_no_step}
use Rattle.tape_script.specs.Generator.{sum_means}
use Rattle.command_laws.specs.OutputText.{AreOf}
use Rattle.volume_output.specs.Output.{GaveVolume, VolumeCut}
use Rattle.volume_store.specs.Mounting.{StoreView}
use Rattle.volume_store.specs.Restoring.{RestoreEnds}
use Rattle.command_spec.specs.Make.{SumVolume, StepDoes, Runs, sum_line, sum_acts, MaySum}
use Rattle.command_laws.specs.MadeTerms.{IsSummed}
use Rattle.made_volumes.specs.Runs.{HasRun, RunEnds, NeverFull}
use Rattle.command_laws.proofs.MadeMachineLaws.{run_of, done_of, does_one}
use Rattle.command_laws.proofs.MadeMayLaws.{may_of}
use Rattle.command_spec.specs.declared.status.Status.{Status}
use Rattle.qic_base.specs.declared.store_fault.StoreFault.{StoreFault}
use Rattle.qic_base.specs.Sink as sinks
use Rattle.qic_base.specs.SinkCalls as sink_calls
use Rattle.qic_base.specs.Tape as tapes
use Rattle.qic_base.specs.TapeCalls as tape_calls
use Rattle.qic_base.specs.declared.store_fault.StoreFault.TheVariants as fault
use Rattle.command_spec.specs.declared.status.Status.TheVariants as status

-- what a line that was written, or not, answers
abbrev printed : {E : Type 0} → Result (Unit {0}) E → Result (Unit {0}) StoreFault
printed (Ok done) = Ok tt
printed (Err failed) = Err fault.Sink

-- ---- no step

front_empty : {A : Type 0} (xs ys : List A) → xs ++ ys ≡ [] → xs ≡ []
front_empty [] ys is = refl
front_empty (x ∷ xs) ys is = absurd (cc)

next_empty : (acts : List Act) → steps_of acts ≡ [] → next_steps acts ≡ []
next_empty [] is = refl
next_empty (act ∷ acts) is = front_empty act.steps (steps_of acts) is

rear_empty : {A : Type 0} (xs ys : List A) → xs ++ ys ≡ [] → ys ≡ []
rear_empty [] ys is = is
rear_empty (x ∷ xs) ys is = absurd (cc)

-- acts of pieces take none
of_no_step : (needed : List Piece) (acts : List Act) → AreOf needed acts → steps_of acts ≡ []
of_no_step needed [] are = refl
of_no_step [] (act ∷ acts) are = absurd are
of_no_step (piece ∷ needed) (act ∷ acts) (none, long, are) = ap (λ (steps : List Step). steps ++ steps_of acts) none
    ∙ of_no_step needed acts are

-- the acts of a line take no step
sum_next : (number bytes : ℕ) (given : List ℕ) (ending : GivingEnd) → next_steps (sum_acts number bytes given ending) ≡ []
sum_next number bytes given Restored = refl
sum_next number bytes given (LostIn segment lost) = refl
sum_next number bytes given (MismatchIn segment) = refl

-- there is an element of each index below the length
never_past : (entries : List Entry) (n : ℕ) → n < length entries → slice_get entries n ≡ None → ⊥
never_past [] n within none = absurd (omega arith)
never_past (e ∷ es) zero within none = cc
never_past (e ∷ es) (suc n) within none = never_past es n (omega arith) none

-- there is a volume of each number up to the count
there_is : (entries : List Entry) (number : ℕ) → 1 ≤ number → number ≤ length entries → volume_at entries number ≡ None → ⊥
there_is entries zero some within none = absurd (omega arith)
there_is entries (suc n) some within none = never_past entries n (omega arith) none

module _ {T K : Type 0} (t : tapes.Meaning T) (k : sinks.Meaning K) (seed : ℕ) (before : StoreView) (number : ℕ) (a b : T) (x : K)
    (none : (z : K) → k.took z [] z) (total : ℕ) where
  abbrev words : List ℕ
  words = before.words

  abbrev entries : List Entry
  entries = before.entries

  -- a volume of this number was read up to this ending, and its bytes summed
  abbrev Gave : Entry → GivingEnd → Type 0
  Gave e ending = GaveVolume t sum_means words (pieces words e) false (around a 0) (around b total) ending

  no_steps : (e : Entry) (ending : GivingEnd) (gave : Gave e ending) → steps_of gave.acts ≡ []
  no_steps e ending gave = of_no_step (pieces words e) gave.acts gave.are

  did_nothing : (e : Entry) (ending : GivingEnd) → Gave e ending → tapes.Done t a b []
  did_nothing e ending gave = subst (λ (steps : List Step). tapes.Done t a b steps) (no_steps e ending gave) gave.went.did

  total_is : (e : Entry) (ending : GivingEnd) (gave : Gave e ending) → total < 2 ^ 32 → sum (text_of gave.acts) % 2 ^ 32 ≡ total
  total_is e ending gave small =
      let took : total % 2 ^ 32 ≡ (0 + sum (text_of gave.acts)) % 2 ^ 32 = gave.went.wrote.took in
      omega arith

  summed_so : (e : Entry) (ending : GivingEnd) (gave : Gave e ending) (c : Cartridge) → volume_at entries number ≡ Some e →
      Restores c words (pieces words e) gave.acts ending →
      StepDoes seed c words entries (SumVolume number) (sum_acts number (volume_length words e) (text_of gave.acts) ending)
      (ending_status ending)
  summed_so e ending gave c numbered restores = record {
    entry = e;
    numbered = numbered;
    acts = gave.acts;
    ending = ending;
    restores = restores;
    is = (refl, refl);
  }

  -- ---- the line

  abbrev line_of : Entry → List ℕ
  line_of e = sum_line number (volume_length words e) total

  abbrev line_act : Entry → Act
  line_act e = record { steps = []; text = line_of e }

  acts_are : (e : Entry) (gave : Gave e Restored) → total < 2 ^ 32 → sum_acts number (volume_length words e)
      (text_of gave.acts) Restored ≡ line_act e ∷ []
  acts_are e gave small = ap (λ (n : ℕ). record { steps = []; text = sum_line number (volume_length words e) n } ∷ [])
      (total_is e Restored gave small)

  line_told : (e : Entry) (gave : Gave e Restored) → total < 2 ^ 32 → volume_at entries number ≡ Some e →
      tape_calls.Tells t a (λ c. StepDoes seed c words entries (SumVolume number) (line_act e ∷ []) status.Done)
  line_told e gave small numbered =
      Tells-map t a (λ c. Restores c words (pieces words e) gave.acts Restored)
      (λ c. StepDoes seed c words entries (SumVolume number) (line_act e ∷ []) status.Done)
      (λ c restores. subst (λ (acts : List Act). StepDoes seed c words entries (SumVolume number) acts status.Done) (acts_are e gave small)
      (summed_so e Restored gave c numbered restores))
      gave.told

  line_written : (y : K) (e : Entry) → Gave e Restored → total < 2 ^ 32 → volume_at entries number ≡ Some e →
      sinks.Wrote k x y (line_of e) →
      RunEnds t k seed words entries (SumVolume number ∷ []) (around a x) (around b y) (Ok tt)
  line_written y e gave small numbered wrote = record {
    acts = line_act e ∷ [];
    went = record {
      did = did_nothing e Restored gave;
      wrote = subst (λ (text : List ℕ). sinks.Wrote k x y text) (sym (append-nil (line_of e))) wrote;
      source_later = omega arith;
    };
    told = Tells-map t a (λ c. StepDoes seed c words entries (SumVolume number) (line_act e ∷ []) status.Done)
        (λ c. Runs seed c words entries (SumVolume number ∷ []) (line_act e ∷ []) status.Done)
        (λ c does. run_of seed c words entries (SumVolume number) (line_act e ∷ []) status.Done does) (line_told e gave small numbered);
    may = may_of seed words entries (SumVolume number) (line_of e ++ []) status.Done (e, numbered, (total, small, append-nil (line_of e)));
  }

  line_cut : (y : K) (e : Entry) → Gave e Restored → sink_calls.BrokeOff k x y (line_of e) → Cut t no_source k (around a x) (around b y)
      (line_act e ∷ []) SinkFails
  line_cut y e gave broke = sink_cut_one t no_source k (around a x) (around b y) (line_act e) (did_nothing e Restored gave) broke
      (omega arith)

  line_broke : (y : K) (e : Entry) → Gave e Restored → total < 2 ^ 32 → volume_at entries number ≡ Some e →
      sink_calls.BrokeOff k x y (line_of e) →
      RunEnds t k seed words entries (SumVolume number ∷ []) (around a x) (around b y) (Err fault.Sink)
  line_broke y e gave small numbered broke = record {
    told = Tells-map t a (λ c. StepDoes seed c words entries (SumVolume number) (line_act e ∷ []) status.Done)
        (λ c. (acts : List Act) (answer : Status) → Runs seed c words entries (SumVolume number ∷ []) acts answer →
        Cut t no_source k (around a x) (around b y) acts SinkFails)
        (λ c does acts answer runs.
        let same : line_act e ∷ [] ≡ acts =
        (does_one seed c words entries (SumVolume number) (line_act e ∷ []) acts status.Done answer does
        (done_of seed c words entries (SumVolume number) acts answer runs)).0 in
        subst (λ (zs : List Act). Cut t no_source k (around a x) (around b y) zs SinkFails) same (line_cut y e gave broke))
        (line_told e gave small numbered);
    acts = line_act e ∷ [];
    cut = line_cut y e gave broke;
  }

  -- the bytes were given whole, and the line was written, or not
  pub sum_printed : (y : K) (bytes : ℕ) (r : Result (Unit {0}) SinkFailed) → total < 2 ^ 32 →
      RestoreEnds t sum_means before number false (around a 0) (around b total) (Ok bytes) →
      sink_calls.Writes k x y (sum_line number bytes total) r →
      RunEnds t k seed words entries (SumVolume number ∷ []) (around a x) (around b y) (printed r)
  sum_printed y bytes (Ok done) small ends wrote =
      line_written y ends.0 ends.2.1 small ends.1 (subst (λ (n : ℕ). sinks.Wrote k x y (sum_line number n total)) ends.2.0 wrote)
  sum_printed y bytes (Err failed) small ends broke =
      line_broke y ends.0 ends.2.1 small ends.1 (subst (λ (n : ℕ). sink_calls.BrokeOff k x y (sum_line number n total)) ends.2.0 broke)

  -- ---- a segment that does not read

  refused_went : (e : Entry) (ending : GivingEnd) (gave : Gave e ending) → volume_at entries number ≡ Some e →
      sum_acts number (volume_length words e) (text_of gave.acts) ending ≡ [] →
      MaySum words number e [] (ending_status ending) →
      HasRun t k seed words entries (SumVolume number ∷ []) (around a x) (around b x) (ending_status ending)
  refused_went e ending gave numbered silent may = record {
    acts = [];
    went = record { did = did_nothing e ending gave; wrote = record { took = none x; later = omega arith }; source_later = omega arith };
    told = Tells-map t a (λ c. Restores c words (pieces words e) gave.acts ending)
        (λ c. Runs seed c words entries (SumVolume number ∷ []) [] (ending_status ending))
        (λ c restores. run_of seed c words entries (SumVolume number) [] (ending_status ending)
        (subst (λ (acts : List Act). StepDoes seed c words entries (SumVolume number) acts (ending_status ending)) silent
        (summed_so e ending gave c numbered restores))) gave.told;
    may = may_of seed words entries (SumVolume number) [] (ending_status ending) (e, numbered, may);
  }

  -- ---- a fault of the tape

  abbrev CutIn : Entry → Failing → Type 0
  CutIn e failing = VolumeCut t sum_means words (pieces words e) false (around a 0) (around b total) failing

  -- what a fault of the tape cuts off takes no step, whatever would have been printed
  no_step_cut : (given acts : List Act) → steps_of given ≡ [] → next_steps acts ≡ [] → Cut t no_source sum_means (around a 0)
      (around b total) given TapeFails →
      Cut t no_source k (around a x) (around b x) acts TapeFails
  no_step_cut given acts still next cut =
      let all : steps_of cut.front ++ steps_of cut.rest ≡ [] = sym (steps_of-append cut.front cut.rest) ∙ ap steps_of cut.parts ∙ still in
      let front : steps_of cut.front ≡ [] = front_empty (steps_of cut.front) (steps_of cut.rest) all in
      let behind : next_steps cut.rest ≡ [] = next_empty cut.rest (rear_empty (steps_of cut.front) (steps_of cut.rest) all) in
      let nothing : steps_of cut.front ++ next_steps cut.rest ≡ next_steps acts =
      ap (λ (steps : List Step). steps ++ next_steps cut.rest) front ∙ behind ∙ sym next in
      record {
        front = [];
        rest = acts;
        parts = refl;
        broke = subst (λ (steps : List Step). tapes.Broke t a b steps) nothing cut.broke;
        here = λ held left told now.
            subst (λ (steps : List Step). Torn steps held left) (behind ∙ sym next)
            (subst (λ (steps : List Step). Torn (next_steps cut.rest) (effects steps held) left) front (cut.here held left told now));
        wrote = record { took = none x; later = omega arith };
        source_later = omega arith;
      }

  tape_cut : (e : Entry) → volume_at entries number ≡ Some e → CutIn e TapeFails →
      RunEnds t k seed words entries (SumVolume number ∷ []) (around a x) (around b x) (Err fault.Tape)
  tape_cut e numbered cut = record {
    told = Tells-map t a
        (λ c. (given : List Act) (ending : GivingEnd) → Restores c words (pieces words e) given ending →
        Cut t no_source sum_means (around a 0) (around b total) given TapeFails)
        (λ c. (acts : List Act) (answer : Status) → Runs seed c words entries (SumVolume number ∷ []) acts answer →
        Cut t no_source k (around a x) (around b x) acts TapeFails)
        (λ c known acts answer runs. by_does c known acts answer (done_of seed c words entries (SumVolume number) acts answer runs))
        cut.told;
    acts = [];
    cut = no_step_cut cut.acts [] (of_no_step (pieces words e) cut.acts cut.are) refl cut.cut;
  }
    where
      by_does : (c : Cartridge) → ((given : List Act) (ending : GivingEnd) → Restores c words (pieces words e) given ending →
          Cut t no_source sum_means (around a 0) (around b total) given TapeFails) →
          (acts : List Act) (answer : Status) → IsSummed c words entries number acts answer →
          Cut t no_source k (around a x) (around b x) acts TapeFails
      by_does c known acts answer summed =
          let there : Some summed.entry ≡ Some e = sym summed.numbered ∙ numbered in
          let entry : summed.entry ≡ e = cc in
          let restores : Restores c words (pieces words e) summed.acts summed.ending =
          subst (λ (f : Entry). Restores c words (pieces words f) summed.acts summed.ending) entry summed.restores in
          no_step_cut summed.acts acts (restores_in_no_step c words (pieces words e) summed.acts summed.ending restores)
          (ap next_steps summed.is.0 ∙ sum_next number (volume_length words summed.entry) (text_of summed.acts) summed.ending)
          (known summed.acts summed.ending restores)

  -- the refusals and the fault of the call that restores
  pub restore_so : 1 ≤ number → number ≤ length entries → (f : StoreFault) → RestoreEnds t sum_means before number false (around a 0)
      (around b total) (Err f) →
      RunEnds t k seed words entries (SumVolume number ∷ []) (around a x) (around b x) (Err f)
  restore_so some within (fault.NoVolume asked count) ends = absurd (there_is entries number some within ends.none)
  restore_so some within (fault.Lost segment lost) ends =
      refused_went ends.0 (LostIn segment lost) ends.2 ends.1 refl (refl, (length ends.2.acts, ends.2.ends))
  restore_so some within (fault.Mismatch segment) ends =
      refused_went ends.0 (MismatchIn segment) ends.2 ends.1 refl (refl, (length ends.2.acts, ends.2.ends))
  restore_so some within fault.Sink ends = absurd (let rose = ends.2.cut.broke.cause in omega arith)
  restore_so some within fault.Tape ends = tape_cut ends.0 ends.1 ends.2
  restore_so some within f ends = absurd ends

  pub restore_never_full : (f : StoreFault) → RestoreEnds t sum_means before number false (around a 0) (around b total) (Err f) →
      NeverFull (Err f)
  restore_never_full (fault.Full need have) ends = absurd ends
  restore_never_full f ends = tt

  -- the same of a call with a sink that has summed nothing
  pub restore_so_at : (start : ℕ) → start ≡ 0 → 1 ≤ number → number ≤ length entries → (f : StoreFault) →
      RestoreEnds t sum_means before number false (around a start) (around b total) (Err f) →
      RunEnds t k seed words entries (SumVolume number ∷ []) (around a x) (around b x) (Err f)
      × NeverFull (Err f)
  restore_so_at start none_yet some within f ends =
      let here : RestoreEnds t sum_means before number false (around a 0) (around b total) (Err f) =
      subst (λ (n : ℕ). RestoreEnds t sum_means before number false (around a n) (around b total) (Err f)) none_yet ends in
      (restore_so some within f here, restore_never_full f here)
