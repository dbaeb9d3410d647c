use Rattle.std.proofs.Common.{◌≡◌, ℕ, ◌+◌, ◌*◌, ◌/◌, ◌%◌, ◌^◌, ◌<◌, List, length, get_or, set, true, false, refl, subst, sym}
use Rattle.std.proofs.Common.{ap, ◌∙◌, arith}
use Rattle.std.proofs.lemmas.Bool.{ne_eqb, eq-eqb, false≢true}
use Rattle.std.proofs.lemmas.List.{length-set}
use Rattle.qic_base.specs.Cartridge.{view_at}
use Rattle.qic_base.specs.CartridgeTerms.{place_of, with_place, is_lost}
use Rattle.formatter.specs.Marking.{MarksBelow}
use Rattle.formatter.proofs.Marks.{marks_good, marks_bad, readable, unreadable}
use Rattle.formatter.proofs.marking.mark_others.Goals as goal
use Rattle.formatter.proofs.marking.mark_others.Goals.{then-not-contains, else-not-contains}

pub loop-index-init : goal.loop-index-init
loop-index-init c = record { marks = λ d are marks. marks; words = refl }

pub mark-requires-clause-segment : goal.mark-requires-clause-segment
mark-requires-clause-segment c = omega (arith, c.loop-index.invariant.words, c.requires)

pub returns-clause-marks : goal.returns-clause-marks
returns-clause-marks c = λ d are marks.
    let all : c.loop-index.index ≡ 32 = omega arith in
    let first : 32 * c.args.segment ≡ place_of c.args.segment 0 = omega arith in
    let last : place_of c.args.segment c.loop-index.index ≡ 32 * (c.args.segment + 1) = omega arith in
    subst (MarksBelow d c.loop-index.map) last
    (c.loop-index.invariant.marks d are (subst (MarksBelow d c.args.map.now) first marks))

pub returns-clause-words : goal.returns-clause-words
returns-clause-words c = c.loop-index.invariant.words

pub loop-index-preserved : goal.loop-index-preserved
loop-index-preserved c =
    let segment : ℕ = c.args.segment in
    let index : ℕ = c.loop-index.index in
    let before = c.loop-index.invariant in
    let next : place_of segment index + 1 ≡ place_of segment (index + 1) = omega arith in
    elim c.if-not-contains.branch [
      | then-not-contains v ↦
          let there : segment < length c.loop-index.map = omega (arith, before.words, c.requires) in
          let now : List ℕ = set c.loop-index.map segment (with_place (get_or c.loop-index.map segment 0) index) in
          let marked : c.if-not-contains.map ≡ now = v.map-is ∙ v.mark.ensures in
          let other : is_lost c.args.good index ≡ false =
          ne_eqb (c.args.good / 2 ^ index % 2) 1 (λ is. false≢true (v.if-not-contains.ensures.lost.1 is)) in
          record {
            marks = λ d are marks. subst (λ (words : List ℕ). MarksBelow d words (place_of segment (index + 1))) (sym marked)
                (subst (MarksBelow d now) next
                (marks_bad d c.loop-index.map segment index there c.loop-index-test.true
                (unreadable (view_at d segment index) (sym (are index c.loop-index-test.true) ∙ other)) (before.marks d are marks)));
            words = ap (λ (words : List ℕ). length words) marked ∙ length-set c.loop-index.map segment _ ∙ before.words;
          }
      | else-not-contains v ↦
          let good : is_lost c.args.good index ≡ true =
          eq-eqb (c.args.good / 2 ^ index % 2) 1 (v.if-not-contains.ensures.lost.0 refl) in
          record {
            marks = λ d are marks. subst (λ (words : List ℕ). MarksBelow d words (place_of segment (index + 1))) (sym v.map-is)
                (subst (MarksBelow d c.loop-index.map) next
                (marks_good d c.loop-index.map segment index c.loop-index-test.true
                (readable (view_at d segment index) (sym (are index c.loop-index-test.true) ∙ good)) (before.marks d are marks)));
            words = ap (λ (words : List ℕ). length words) v.map-is ∙ before.words;
          }
    ]
