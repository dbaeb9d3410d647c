-- How telling of some segments and then of others joins.
use Rattle.std.proofs.Common.{◌≡◌, List, [], ◌∷◌, ◌++◌, length, refl, sym, ap, ◌∙◌, subst, arith, append-nil}
use Rattle.std.proofs.Common.{Result, Ok, Err}
use Rattle.std.specs.List.{AllZip}
use Rattle.segment_io.proofs.Going.{tells_always}
use Rattle.qic_base.proofs.Steps.{Tells-map, tells_two, Tells-read}
use Rattle.qic_base.proofs.Writing.{TakesBoth}
use Rattle.qic_base.specs.Acts.{Act, Outside, Failing, TapeFails, SinkFails, Went, Cut, steps_of}
use Rattle.qic_base.specs.Alone.{no_source, around}
use Rattle.qic_base.proofs.Joins.{nothing_went, went_both, went_then_cut, cut_is_longer, sink_cut_one}
use Rattle.command_spec.specs.Scrub.{Looked}
use Rattle.command_spec.specs.Check.{IsTold, MayBeTold, verdict_acts, verdict_line}
use Rattle.cartridge_check.specs.Telling.{Counted, HasTold, TellingCut, TellsAll}
use Rattle.command_spec.specs.declared.verdict.Verdict.{Verdict}
use Rattle.cartridge_check.specs.declared.fault.CheckFault.{CheckFault}
use Rattle.cartridge_check.specs.declared.tally.Tally.{Tally}
use Rattle.cartridge_check.proofs.Parts.{PartsOf, zip_join, zip_part, zip_length, acts_join, no_steps, sound_all, sound_may, counted_none}
use Rattle.cartridge_check.proofs.Parts.{counted_both}
use Rattle.command_laws.proofs.Checked.{all_told_once}
use Rattle.qic_base.specs.Sink as sinks
use Rattle.qic_base.specs.SinkCalls as sink_calls
use Rattle.qic_base.specs.Tape as tapes
use Rattle.qic_base.specs.TapeCalls as tape_calls
use Rattle.cartridge_check.specs.declared.fault.CheckFault.TheVariants as fault

module _ {T K : Type 0} (t : tapes.Meaning T) (k : sinks.Meaning K) where
  -- lines alone are no step of the tape
  pub only_read : (xs : List Looked) (us : List Verdict) (a b : Outside T (Unit {0}) K) → Went t no_source k a b (verdict_acts xs us) →
      tapes.Done t a.tape b.tape []
  only_read xs us a b went = subst (tapes.Done t a.tape b.tape) (sym (ap steps_of (append-nil (verdict_acts xs us))) ∙ no_steps xs us [])
      went.did

  -- ---- what went

  -- no segment yet
  pub told_none : ((x : K) → k.took x [] x) → (a : Outside T (Unit {0}) K) (tally : Tally) → HasTold t k [] a a tally tally
  told_none nothing a tally = record {
    verdicts = [];
    told = tells_always t a.tape (λ c. AllZip (IsTold c) [] []) (λ c. tt);
    may = tt;
    went = nothing_went t no_source k nothing a;
    counted = counted_none tally;
  }

  pub told_both : TakesBoth k → (xs ys : List Looked) (a b c : Outside T (Unit {0}) K) (before between after : Tally) →
      HasTold t k xs a b before between → HasTold t k ys b c between after → HasTold t k (xs ++ ys) a c before after
  told_both both xs ys a b c before between after first next = record {
    verdicts = first.verdicts ++ next.verdicts;
    told = tells_two t a.tape (λ d. AllZip (IsTold d) xs first.verdicts) (λ d. AllZip (IsTold d) ys next.verdicts)
        (λ d. AllZip (IsTold d) (xs ++ ys) (first.verdicts ++ next.verdicts))
        (λ d one two. zip_join (IsTold d) xs ys first.verdicts next.verdicts one two) first.told
        (Tells-read (λ d. AllZip (IsTold d) ys next.verdicts) (only_read xs first.verdicts a b first.went) next.told);
    may = zip_join MayBeTold xs ys first.verdicts next.verdicts first.may next.may;
    went = subst (Went t no_source k a c)
        (sym (acts_join xs ys first.verdicts next.verdicts (zip_length MayBeTold xs first.verdicts first.may)))
        (went_both t no_source k both a b c (verdict_acts xs first.verdicts) (verdict_acts ys next.verdicts) first.went next.went);
    counted = counted_both first.verdicts next.verdicts before between after first.counted next.counted;
  }

  -- ---- what was cut off

  -- segments behind those
  pub cut_longer : (xs ys : List Looked) (a b : Outside T (Unit {0}) K) (failing : Failing) → TellingCut t k xs a b failing →
      TellingCut t k (xs ++ ys) a b failing
  cut_longer xs ys a b failing cut = record {
    told = Tells-map t a.tape
        (λ c. (us : List Verdict) → AllZip (IsTold c) xs us → Cut t no_source k a b (verdict_acts xs us) failing)
        (λ c. (ws : List Verdict) → AllZip (IsTold c) (xs ++ ys) ws → Cut t no_source k a b (verdict_acts (xs ++ ys) ws) failing)
        (λ c here ws all.
        let parts : PartsOf (IsTold c) xs ys ws = zip_part (IsTold c) xs ys ws all in
        longer parts.front parts.rest ws parts.parts (zip_length (IsTold c) xs parts.front parts.first) (here parts.front parts.first))
        cut.told;
    verdicts = cut.verdicts ++ sound_all ys;
    may = zip_join MayBeTold xs ys cut.verdicts (sound_all ys) cut.may (sound_may ys);
    cut = longer cut.verdicts (sound_all ys) (cut.verdicts ++ sound_all ys) refl (zip_length MayBeTold xs cut.verdicts cut.may) cut.cut;
  }
    where
      longer : (us vs ws : List Verdict) → ws ≡ us ++ vs → length us ≡ length xs → Cut t no_source k a b (verdict_acts xs us) failing →
          Cut t no_source k a b (verdict_acts (xs ++ ys) ws) failing
      longer us vs ws is each off =
          subst (λ (acts : List Act). Cut t no_source k a b acts failing)
          (sym (ap (verdict_acts (xs ++ ys)) is ∙ acts_join xs ys us vs each))
          (cut_is_longer t no_source k a b (verdict_acts xs us) (verdict_acts ys vs) failing off)

  -- segments that were told of before those
  pub told_then_cut : TakesBoth k → (xs ys : List Looked) (a b c : Outside T (Unit {0}) K) (before between : Tally) (failing : Failing) →
      HasTold t k xs a b before between → TellingCut t k ys b c failing → TellingCut t k (xs ++ ys) a c failing
  told_then_cut both xs ys a b c before between failing first cut = record {
    told = tells_two t a.tape (λ d. AllZip (IsTold d) xs first.verdicts)
        (λ d. (vs : List Verdict) → AllZip (IsTold d) ys vs → Cut t no_source k b c (verdict_acts ys vs) failing)
        (λ d. (ws : List Verdict) → AllZip (IsTold d) (xs ++ ys) ws → Cut t no_source k a c (verdict_acts (xs ++ ys) ws) failing)
        (λ d here there ws all.
        let parts : PartsOf (IsTold d) xs ys ws = zip_part (IsTold d) xs ys ws all in
        behind parts.rest ws (parts.parts ∙ ap (λ (us : List Verdict). us ++ parts.rest)
        (sym (all_told_once d xs first.verdicts parts.front here parts.first))) (there parts.rest parts.next))
        first.told
        (Tells-read (λ d. (vs : List Verdict) → AllZip (IsTold d) ys vs → Cut t no_source k b c (verdict_acts ys vs) failing)
        (only_read xs first.verdicts a b first.went) cut.told);
    verdicts = first.verdicts ++ cut.verdicts;
    may = zip_join MayBeTold xs ys first.verdicts cut.verdicts first.may cut.may;
    cut = behind cut.verdicts (first.verdicts ++ cut.verdicts) refl cut.cut;
  }
    where
      behind : (vs ws : List Verdict) → ws ≡ first.verdicts ++ vs → Cut t no_source k b c (verdict_acts ys vs) failing →
          Cut t no_source k a c (verdict_acts (xs ++ ys) ws) failing
      behind vs ws is off =
          subst (λ (acts : List Act). Cut t no_source k a c acts failing)
          (sym (ap (verdict_acts (xs ++ ys)) is ∙ acts_join xs ys first.verdicts vs (zip_length MayBeTold xs first.verdicts first.may)))
          (went_then_cut t no_source k both a b c (verdict_acts xs first.verdicts) (verdict_acts ys vs) failing first.went off)

  -- a fault of the tape in a call that only reads
  pub read_cut : ((x : K) → k.took x [] x) → (a b : T) (s : K) → tapes.Broke t a b [] →
      Cut t no_source k (around a s) (around b s) [] TapeFails
  read_cut nothing a b s broke = record {
    front = [];
    rest = [];
    parts = refl;
    broke = broke;
    here = λ held left told now. broke.torn held left told now;
    wrote = record { took = nothing s; later = omega arith };
    source_later = omega arith;
  }

  -- .. before the first line
  pub none_told : ((x : K) → k.took x [] x) → (looked : List Looked) (a b : T) (s : K) → tapes.Broke t a b [] →
      TellingCut t k looked (around a s) (around b s) TapeFails
  none_told nothing looked a b s broke = record {
    told = tells_always t a
        (λ c. (us : List Verdict) → AllZip (IsTold c) looked us →
        Cut t no_source k (around a s) (around b s) (verdict_acts looked us) TapeFails)
        (λ c us all. cut_is_longer t no_source k (around a s) (around b s) [] (verdict_acts looked us) TapeFails
        (read_cut nothing a b s broke));
    verdicts = sound_all looked;
    may = sound_may looked;
    cut = cut_is_longer t no_source k (around a s) (around b s) [] (verdict_acts looked (sound_all looked)) TapeFails
        (read_cut nothing a b s broke);
  }

  -- .. behind the lines of some segments
  pub told_then_broke : TakesBoth k → ((x : K) → k.took x [] x) → (xs : List Looked) (a : Outside T (Unit {0}) K) (b c : T) (s : K)
      (before between : Tally) → HasTold t k xs a (around b s) before between → tapes.Broke t b c [] →
      TellingCut t k xs a (around c s) TapeFails
  told_then_broke both nothing xs a b c s before between first broke =
      subst (λ (looked : List Looked). TellingCut t k looked a (around c s) TapeFails) (append-nil xs)
      (told_then_cut both xs [] a (around b s) (around c s) before between TapeFails first (none_told nothing [] b c s broke))

  -- ---- one segment

  module _ (l : Looked) (a b : T) (x y : K) (v : Verdict) (told : tape_calls.Tells t a (λ c. IsTold c l v)) (may : MayBeTold l v)
      (did : tapes.Done t a b []) where
    pub line_written : (before after : Tally) → sinks.Wrote k x y (verdict_line l.segment v) → Counted (v ∷ []) before after →
        HasTold t k (l ∷ []) (around a x) (around b y) before after
    line_written before after wrote counted = record {
      verdicts = v ∷ [];
      told = Tells-map t a (λ c. IsTold c l v) (λ c. AllZip (IsTold c) (l ∷ []) (v ∷ [])) (λ c is. (is, tt)) told;
      may = (may, tt);
      went = record {
        did = did;
        wrote = subst (sinks.Wrote k x y) (sym (append-nil (verdict_line l.segment v))) wrote;
        source_later = omega arith;
      };
      counted = counted;
    }

    pub line_cut : sink_calls.BrokeOff k x y (verdict_line l.segment v) → TellingCut t k (l ∷ []) (around a x) (around b y) SinkFails
    line_cut broke =
        let off : Cut t no_source k (around a x) (around b y) (verdict_acts (l ∷ []) (v ∷ [])) SinkFails =
        sink_cut_one t no_source k (around a x) (around b y) (record { steps = []; text = verdict_line l.segment v }) did broke
        (omega arith) in
        record {
          told = Tells-map t a (λ c. IsTold c l v)
              (λ c. (us : List Verdict) → AllZip (IsTold c) (l ∷ []) us →
              Cut t no_source k (around a x) (around b y) (verdict_acts (l ∷ []) us) SinkFails)
              (λ c is us all.
              subst (λ (ws : List Verdict). Cut t no_source k (around a x) (around b y) (verdict_acts (l ∷ []) ws) SinkFails)
              (all_told_once c (l ∷ []) (v ∷ []) us (is, tt) all) off)
              told;
          verdicts = v ∷ [];
          may = (may, tt);
          cut = off;
        }

  -- ---- by answers

  pub tells_then : TakesBoth k → (xs ys : List Looked) (a b c : Outside T (Unit {0}) K) (before between after : Tally)
      (result : Result (Unit {0}) CheckFault) → HasTold t k xs a b before between → TellsAll t k ys b c between after result →
      TellsAll t k (xs ++ ys) a c before after result
  tells_then both xs ys a b c before between after (Ok done) first next = told_both both xs ys a b c before between after first next
  tells_then both xs ys a b c before between after (Err fault.Sink) first cut =
      told_then_cut both xs ys a b c before between SinkFails first cut
  tells_then both xs ys a b c before between after (Err fault.Tape) first cut =
      told_then_cut both xs ys a b c before between TapeFails first cut
  tells_then both xs ys a b c before between after (Err other) first cut = absurd cut

  pub tells_longer : (xs ys : List Looked) (a b : Outside T (Unit {0}) K) (before after other : Tally) (why : CheckFault) →
      TellsAll t k xs a b before after (Err why) → TellsAll t k (xs ++ ys) a b before other (Err why)
  tells_longer xs ys a b before after other fault.Sink cut = cut_longer xs ys a b SinkFails cut
  tells_longer xs ys a b before after other fault.Tape cut = cut_longer xs ys a b TapeFails cut
  tells_longer xs ys a b before after other why cut = absurd cut
