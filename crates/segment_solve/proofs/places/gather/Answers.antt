use Rattle.std.proofs.Common.{◌≡◌, ℕ, ◌+◌, ◌/◌, ◌%◌, ◌^◌, true, false, List, [], get_or, set, refl, subst, sym, ap, ◌∙◌, arith}
use Rattle.std.proofs.lemmas.Bool.{ne_eqb, eq-eqb, false≢true}
use Rattle.cartridge_laws.proofs.Places.{count_below}
use Rattle.qic_base.specs.CartridgeTerms.{IsLost, is_lost}
use Rattle.segment_solve.proofs.GatheredCells.{with_bad, begun, passed_by, moved, gathered_as, gathered_all}
use Rattle.segment_solve.proofs.places.gather.Goals as goal
use Rattle.segment_solve.proofs.places.gather.Goals.{then-contains, then-not-contains, else-not-contains, else-contains}

pub loop-index-init : goal.loop-index-init
loop-index-init c = begun c.args.usable c.args.good c.args.sectors.now (omega arith)

pub move_to-requires-clause-place : goal.move_to-requires-clause-place
move_to-requires-clause-place c = omega (arith, count_below c.args.usable c.loop-index.index)

pub overflow_shl-lost : goal.overflow_shl-lost
overflow_shl-lost c = omega (arith, count_below c.args.usable c.loop-index.index)

pub overflow_add-place : goal.overflow_add-place
overflow_add-place c = omega (arith, count_below c.args.usable c.loop-index.index)

pub loop-index-preserved : goal.loop-index-preserved
loop-index-preserved c =
    let usable : ℕ = c.args.usable in
    let good : ℕ = c.args.good in
    let lost : ℕ = c.loop-index.lost in
    let place : ℕ = c.loop-index.place in
    let index : ℕ = c.loop-index.index in
    let old : List (List ℕ) = c.args.sectors.now in
    let now : List (List ℕ) = c.loop-index.sectors in
    elim c.if-contains.branch [
      | then-contains w ↦
          let used : IsLost usable index = subst (λ (m : ℕ). IsLost m index) c.from_mask.ensures (w.if-contains.ensures.lost.0 refl) in
          let more : w.if-not-contains.lost ≡ with_bad (is_lost good index) lost place =
          elim w.if-not-contains.branch [
            | then-not-contains v ↦
                let there : is_lost good index ≡ false =
                ne_eqb (good / 2 ^ index % 2) 1 (λ is. false≢true (v.if-not-contains.ensures.lost.1 is)) in
                v.lost-is ∙ sym (ap (λ b. with_bad b lost place) there)
            | else-not-contains v ↦
                let there : is_lost good index ≡ true = eq-eqb (good / 2 ^ index % 2) 1 (v.if-not-contains.ensures.lost.0 refl) in
                v.lost-is ∙ sym (ap (λ b. with_bad b lost place) there)
          ] in
          gathered_as usable good (with_bad (is_lost good index) lost place) c.if-contains.lost (place + 1) c.if-contains.place
          (index + 1) old (set now place (get_or now index [])) c.if-contains.sectors
          (moved usable good lost place index old now used c.loop-index-test.true c.loop-index.invariant)
          (w.lost-is ∙ more) w.place-is (w.sectors-is ∙ w.move_to.ensures)
      | else-contains w ↦
          let kept : IsLost usable index → ⊥ =
          λ is. false≢true (w.if-contains.ensures.lost.1 (subst (λ (m : ℕ). IsLost m index) (sym c.from_mask.ensures) is)) in
          gathered_as usable good lost c.if-contains.lost place c.if-contains.place (index + 1) old now c.if-contains.sectors
          (passed_by usable good lost place index old now kept c.loop-index.invariant)
          w.lost-is w.place-is w.sectors-is
    ]

pub returns-clause-gathered : goal.returns-clause-gathered
returns-clause-gathered c blank view before reads =
    let end : c.loop-index.index ≡ 32 = omega arith in
    rw c.from_mask-2.ensures
    ((gathered_all c.args.usable c.args.good c.loop-index.lost c.loop-index.place c.loop-index.index c.args.sectors.now
    c.loop-index.sectors end c.loop-index.invariant).gathered blank view before reads)

pub returns-clause-within : goal.returns-clause-within
returns-clause-within c =
    let end : c.loop-index.index ≡ 32 = omega arith in
    rw c.from_mask-2.ensures
    (gathered_all c.args.usable c.args.good c.loop-index.lost c.loop-index.place c.loop-index.index c.args.sectors.now
    c.loop-index.sectors end c.loop-index.invariant).within
