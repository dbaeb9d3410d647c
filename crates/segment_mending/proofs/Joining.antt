-- How looking at some segments and then at others joins.
use Rattle.std.proofs.Common.{◌≡◌, ℕ, ◌+◌, ◌≤◌, List, [], ◌++◌, length, refl, sym, ap, ◌∙◌, subst, arith, Option, Some, None, IfSome}
use Rattle.std.proofs.Common.{Result, Ok, Err}
use Rattle.std.proofs.lemmas.List.{length-append}
use Rattle.qic_base.specs.Cartridge.{Cartridge}
use Rattle.qic_base.specs.Step.{Step}
use Rattle.qic_base.specs.Sink as sinks
use Rattle.qic_base.specs.Tape as tapes
use Rattle.qic_base.specs.TapeCalls as tape_calls
use Rattle.qic_base.proofs.Steps.{Tells-map, tells_two}
use Rattle.qic_base.proofs.Writing.{TakesBoth}
use Rattle.qic_base.specs.Acts.{Act, steps_of, text_of, Outside, Failing, TapeFails, SinkFails, Cut}
use Rattle.qic_base.specs.Alone.{no_source}
use Rattle.qic_base.proofs.Joins.{steps_of-append, text_of-append, nothing_went, went_both, went_then_cut, cut_is_longer}
use Rattle.cartridge_spec.specs.Settling.{changed_by}
use Rattle.command_spec.specs.Scrub.{Looked, Counts, unread_count, Finding, FindInTurn, finding_acts, lines_for, sayings_of}
use Rattle.command_spec.specs.declared.depth.Depth.{Depth}
use Rattle.qic_base.specs.declared.store_fault.StoreFault.{StoreFault}
use Rattle.qic_base.specs.declared.store_fault.StoreFault.TheVariants as fault
use Rattle.segment_mending.specs.declared.progress.Progress.{Progress}
use Rattle.segment_mending.specs.Looking.{AreActs, Counted, HasLooked, LookingCut, Looks, HasFew}
use Rattle.segment_mending.specs.Mending.{reported}
use Rattle.segment_mending.proofs.Parts.{behind, turns_join, acts_join, TurnsOf, turns_part, as_many, may_join, lines_join, unread_join}
use Rattle.segment_mending.proofs.Parts.{unread_most, mismatches, mismatches_may, line_acts, text_of_lines}
use Rattle.command_laws.proofs.ScrubOneWrong.{one_turn}
use Rattle.command_laws.proofs.MadeTelling.{tells_before}

-- ---- the acts

module _ {T : Type 0} (t : tapes.Meaning T) (a b : T) (depth : Depth) (xs ys : List Looked) (fs gs : List Finding)
    (front next : List Act) where
  both_told : tapes.Done t a b (steps_of front) → AreActs t a depth xs fs front → AreActs t b depth ys gs next →
      tape_calls.Tells t a (λ c. FindInTurn depth c (xs ++ ys) (fs ++ gs) × (front ++ next ≡ finding_acts c (xs ++ ys) (fs ++ gs)))
  both_told did first later =
      tells_two t a (λ c. FindInTurn depth c xs fs × (front ≡ finding_acts c xs fs))
      (λ c. FindInTurn depth (changed_by (steps_of front) c) ys gs × (next ≡ finding_acts (changed_by (steps_of front) c) ys gs))
      (λ c. FindInTurn depth c (xs ++ ys) (fs ++ gs) × (front ++ next ≡ finding_acts c (xs ++ ys) (fs ++ gs)))
      (λ c here there.
      let same : changed_by (steps_of front) c ≡ behind c xs fs = ap (λ (acts : List Act). changed_by (steps_of acts) c) here.1 in (
        turns_join depth xs ys c fs gs here.0 (subst (λ (d : Cartridge). FindInTurn depth d ys gs) same there.0),
        ap (λ (acts : List Act). acts ++ next) here.1
            ∙ ap (λ (acts : List Act). finding_acts c xs fs ++ acts)
            (there.1 ∙ ap (λ (d : Cartridge). finding_acts d ys gs) same)
            ∙ sym (acts_join depth xs ys c fs gs here.0),
      ))
      first.told (tells_before t a b (steps_of front) (λ d. FindInTurn depth d ys gs × (next ≡ finding_acts d ys gs)) did later.told)

  pub acts_both : tapes.Done t a b (steps_of front) → AreActs t a depth xs fs front → AreActs t b depth ys gs next →
      AreActs t a depth (xs ++ ys) (fs ++ gs) (front ++ next)
  acts_both did first later = record {
    told = both_told did first later;
    may = may_join depth xs ys fs gs first.may later.may;
    text = text_of-append front next ∙ ap (λ (text : List ℕ). text ++ text_of next) first.text
        ∙ ap (λ (text : List ℕ). lines_for xs fs ++ text) later.text ∙ sym (lines_join xs ys fs gs (as_many depth xs fs first.may));
  }

counted_both : (xs ys : List Looked) (fs gs : List Finding) (front next : List Act) (a b c : Counts) → length fs ≡ length xs →
    Counted xs fs front a b → Counted ys gs next b c → Counted (xs ++ ys) (fs ++ gs) (front ++ next) a c
counted_both xs ys fs gs front next a b c each first later =
    let looked : length (xs ++ ys) ≡ length xs + length ys = length-append xs ys in
    let steps : length (steps_of (front ++ next)) ≡ length (steps_of front) + length (steps_of next) =
    ap (λ (steps : List Step). length steps) (steps_of-append front next) ∙ length-append (steps_of front) (steps_of next) in
    let unread : unread_count (xs ++ ys) (sayings_of (fs ++ gs)) ≡ unread_count xs (sayings_of fs) + unread_count ys (sayings_of gs) =
    unread_join xs ys fs gs each in
    record {
      segments = (let e = first.segments in let f = later.segments in omega arith);
      mended = (let e = first.mended in let f = later.mended in omega arith);
      unreadable = (let e = first.unreadable in let f = later.unreadable in omega arith);
      few = (let e = first.few in let f = later.few in omega arith);
    }

-- the counts stay few
pub few_after : (looked : List Looked) (findings : List Finding) (acts : List Act) (most : ℕ) (a b : Counts) →
    Counted looked findings acts a b → HasFew most a →
    HasFew (most + length looked) b
few_after looked findings acts most a b counted few =
    let unread : unread_count looked (sayings_of findings) ≤ length looked = unread_most looked (sayings_of findings) in
    record {
      segments = (let e = counted.segments in let f = few.segments in omega arith);
      mended = (let e = counted.segments in let f = counted.mended in let g = counted.few in let h = few.mended in omega arith);
      unreadable = (let e = counted.segments in let f = counted.unreadable in let h = few.unreadable in omega arith);
    }

pub few_more : (most more : ℕ) (a : Counts) → most ≤ more → HasFew most a → HasFew more a
few_more most more a within few = record {
  segments = (let e = few.segments in omega arith);
  mended = few.mended;
  unreadable = few.unreadable;
}

-- ---- runs

module _ {T K : Type 0} {t : tapes.Meaning T} {k : sinks.Meaning K} where
  -- no segment yet
  pub looked_none : ((x : K) → k.took x [] x) → (a : Outside T (Unit {0}) K) (now : Progress) → HasLooked t k [] a a now now
  looked_none nothing a now = record {
    findings = [];
    acts = [];
    are = record { told = none_told (t.told a.tape); may = tt; text = refl };
    went = nothing_went t no_source k nothing a;
    counted = record { segments = omega arith; mended = omega arith; unreadable = omega arith; few = omega arith };
    depth = refl;
  }
    where
      none_told : (o : Option (Option Cartridge)) →
          IfSome o (λ held. IfSome held (λ c. FindInTurn now.depth c [] [] × ([] ≡ finding_acts c [] [])))
      none_told None = tt
      none_told (Some None) = tt
      none_told (Some (Some c)) = (tt, refl)

  pub looked_both : TakesBoth k → (xs ys : List Looked) (a b c : Outside T (Unit {0}) K) (before between after : Progress) →
      HasLooked t k xs a b before between → HasLooked t k ys b c between after → HasLooked t k (xs ++ ys) a c before after
  looked_both both xs ys a b c before between after first next =
      let are : AreActs t b.tape before.depth ys next.findings next.acts =
      subst (λ (form : Depth). AreActs t b.tape form ys next.findings next.acts) first.depth next.are in
      record {
        findings = first.findings ++ next.findings;
        acts = first.acts ++ next.acts;
        are = acts_both t a.tape b.tape before.depth xs ys first.findings next.findings first.acts next.acts first.went.did first.are are;
        went = went_both t no_source k both a b c first.acts next.acts first.went next.went;
        counted = counted_both xs ys first.findings next.findings first.acts next.acts (reported before.report) (reported between.report)
            (reported after.report) (as_many before.depth xs first.findings first.are.may) first.counted next.counted;
        depth = next.depth ∙ first.depth;
      }

  -- segments behind those
  cut_longer : (depth : Depth) (xs ys : List Looked) (a b : Outside T (Unit {0}) K) (failing : Failing) →
      LookingCut t k depth xs a b failing → LookingCut t k depth (xs ++ ys) a b failing
  cut_longer depth xs ys a b failing cut =
      let more : List Finding = mismatches ys in
      record {
        told = Tells-map t a.tape
            (λ c. (findings : List Finding) → FindInTurn depth c xs findings → Cut t no_source k a b (finding_acts c xs findings) failing)
            (λ c. (findings : List Finding) → FindInTurn depth c (xs ++ ys) findings →
            Cut t no_source k a b (finding_acts c (xs ++ ys) findings) failing)
            (λ c here hs found.
            let turns : TurnsOf depth c xs ys hs = turns_part depth xs ys c hs found in
            let acts : finding_acts c xs turns.front ++ finding_acts (behind c xs turns.front) ys turns.rest ≡ finding_acts c
            (xs ++ ys) hs =
            sym (ap (finding_acts c (xs ++ ys)) turns.parts ∙ acts_join depth xs ys c turns.front turns.rest turns.first) in
            subst (λ (acts : List Act). Cut t no_source k a b acts failing) acts
            (cut_is_longer t no_source k a b (finding_acts c xs turns.front) (finding_acts (behind c xs turns.front) ys turns.rest) failing
            (here turns.front turns.first)))
            cut.told;
        findings = cut.findings ++ more;
        acts = cut.acts ++ line_acts ys more;
        may = may_join depth xs ys cut.findings more cut.may (mismatches_may depth ys);
        text = text_of-append cut.acts (line_acts ys more) ∙ ap (λ (text : List ℕ). text ++ text_of (line_acts ys more)) cut.text
            ∙ ap (λ (text : List ℕ). lines_for xs cut.findings ++ text) (text_of_lines ys more)
            ∙ sym (lines_join xs ys cut.findings more (as_many depth xs cut.findings cut.may));
        cut = cut_is_longer t no_source k a b cut.acts (line_acts ys more) failing cut.cut;
      }

  -- segments that were looked at before those
  looked_then_cut : TakesBoth k → (xs ys : List Looked) (a b c : Outside T (Unit {0}) K) (before between : Progress) (failing : Failing) →
      HasLooked t k xs a b before between → LookingCut t k between.depth ys b c failing →
      LookingCut t k before.depth (xs ++ ys) a c failing
  looked_then_cut both xs ys a b c before between failing first next =
      let depth : Depth = before.depth in
      let cut : LookingCut t k depth ys b c failing = subst (λ (form : Depth). LookingCut t k form ys b c failing) first.depth next in
      let steps : List Step = steps_of first.acts in
      record {
        told = tells_two t a.tape (λ d. FindInTurn depth d xs first.findings × (first.acts ≡ finding_acts d xs first.findings))
            (λ d. (findings : List Finding) → FindInTurn depth (changed_by steps d) ys findings →
            Cut t no_source k b c (finding_acts (changed_by steps d) ys findings) failing)
            (λ d. (findings : List Finding) → FindInTurn depth d (xs ++ ys) findings →
            Cut t no_source k a c (finding_acts d (xs ++ ys) findings) failing)
            (λ d here there hs found.
            let turns : TurnsOf depth d xs ys hs = turns_part depth xs ys d hs found in
            let same : first.findings ≡ turns.front = one_turn depth xs d first.findings turns.front here.0 turns.first in
            let is : first.acts ≡ finding_acts d xs turns.front = here.1 ∙ ap (finding_acts d xs) same in
            let now : changed_by steps d ≡ behind d xs turns.front = ap (λ (acts : List Act). changed_by (steps_of acts) d) is in
            let rest : Cut t no_source k b c (finding_acts (behind d xs turns.front) ys turns.rest) failing =
            subst (λ (e : Cartridge). Cut t no_source k b c (finding_acts e ys turns.rest) failing) now
            (there turns.rest (subst (λ (e : Cartridge). FindInTurn depth e ys turns.rest) (sym now) turns.next)) in
            let acts : first.acts ++ finding_acts (behind d xs turns.front) ys turns.rest ≡ finding_acts d (xs ++ ys) hs =
            ap (λ (acts : List Act). acts ++ finding_acts (behind d xs turns.front) ys turns.rest) is
            ∙ sym (ap (finding_acts d (xs ++ ys)) turns.parts ∙ acts_join depth xs ys d turns.front turns.rest turns.first) in
            subst (λ (acts : List Act). Cut t no_source k a c acts failing) acts
            (went_then_cut t no_source k both a b c first.acts (finding_acts (behind d xs turns.front) ys turns.rest) failing first.went
            rest))
            first.are.told
            (tells_before t a.tape b.tape steps
            (λ e. (findings : List Finding) → FindInTurn depth e ys findings → Cut t no_source k b c (finding_acts e ys findings) failing)
            first.went.did cut.told);
        findings = first.findings ++ cut.findings;
        acts = first.acts ++ cut.acts;
        may = may_join depth xs ys first.findings cut.findings first.are.may cut.may;
        text = text_of-append first.acts cut.acts ∙ ap (λ (text : List ℕ). text ++ text_of cut.acts) first.are.text
            ∙ ap (λ (text : List ℕ). lines_for xs first.findings ++ text) cut.text
            ∙ sym (lines_join xs ys first.findings cut.findings (as_many depth xs first.findings first.are.may));
        cut = went_then_cut t no_source k both a b c first.acts cut.acts failing first.went cut.cut;
      }

-- ---- by answers

module _ {T K : Type 0} (t : tapes.Meaning T) (k : sinks.Meaning K) where
  pub looks_then : TakesBoth k → (xs ys : List Looked) (a b c : Outside T (Unit {0}) K) (before between after : Progress)
      (result : Result (Unit {0}) StoreFault) →
      HasLooked t k xs a b before between → Looks t k ys b c between after result → Looks t k (xs ++ ys) a c before after result
  looks_then both xs ys a b c before between after (Ok done) first next = looked_both both xs ys a b c before between after first next
  looks_then both xs ys a b c before between after (Err fault.Sink) first next =
      looked_then_cut both xs ys a b c before between SinkFails first next
  looks_then both xs ys a b c before between after (Err fault.Tape) first next =
      looked_then_cut both xs ys a b c before between TapeFails first next
  looks_then both xs ys a b c before between after (Err other) first next = absurd next

  pub looks_longer : (xs ys : List Looked) (a b : Outside T (Unit {0}) K) (before after other : Progress) (why : StoreFault) →
      Looks t k xs a b before after (Err why) → Looks t k (xs ++ ys) a b before other (Err why)
  looks_longer xs ys a b before after other fault.Sink cut = cut_longer before.depth xs ys a b SinkFails cut
  looks_longer xs ys a b before after other fault.Tape cut = cut_longer before.depth xs ys a b TapeFails cut
  looks_longer xs ys a b before after other why cut = absurd cut
