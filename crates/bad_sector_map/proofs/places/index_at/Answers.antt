use Rattle.std.proofs.Common.{◌≡◌, ℕ, ap, arith, get_or, length, List, refl, subst, sym, ◌∙◌}
use Rattle.std.proofs.lemmas.Bool.{false≢true}
use Rattle.qic_base.specs.Cartridge.{lost_places}
use Rattle.qic_base.specs.CartridgeTerms.{IsLost}
use Rattle.cartridge_laws.proofs.Places.{none_below, place_of_sector}
use Rattle.bad_sector_map.proofs.places.index_at.Goals as goal
use Rattle.bad_sector_map.proofs.places.index_at.Goals.{then-contains+else-before-place, else-contains}
use Rattle.qic_base.proofs.LostSetLaws.{count_more, count_same}

pub loop-index-init : goal.loop-index-init
loop-index-init c = record {
  count = sym (ap (λ (l : List ℕ). length l) (none_below c.args.usable));
  below = omega arith;
}

pub returns-then-before-place : goal.returns-then-before-place
returns-then-before-place c =
    let set : ℕ = c.args.usable in
    let index : ℕ = c.loop-index.index in
    let at : length (lost_places set index) ≡ c.args.place = sym c.loop-index.invariant.count ∙ c.if-before-place.true in
    let lost : IsLost set index = subst (λ (m : ℕ). IsLost m index) c.from_mask.ensures (c.if-contains.ensures.lost.0 refl) in
    sym (place_of_sector set index lost c.loop-index-test.true) ∙ ap (λ (k : ℕ). get_or (lost_places set 32) k 0) at

pub loop-index-preserved : goal.loop-index-preserved
loop-index-preserved c =
    let set : ℕ = c.args.usable in
    let index : ℕ = c.loop-index.index in
    let before = c.loop-index.invariant in
    elim c.if-contains.branch [
      | then-contains+else-before-place w ↦
          let lost : IsLost set index = subst (λ (m : ℕ). IsLost m index) c.from_mask.ensures (w.if-contains.ensures.lost.0 refl) in
          record {
            count = omega (arith, w.before-is, before.count, count_more set index lost);
            below = omega (arith, w.before-is, before.below, w.if-before-place.false);
          }
      | else-contains w ↦
          let kept : IsLost set index → ⊥ =
          λ is. false≢true (w.if-contains.ensures.lost.1 (subst (λ (m : ℕ). IsLost m index) (sym c.from_mask.ensures) is)) in
          record {
            count = w.before-is ∙ before.count ∙ sym (count_same set index kept);
            below = omega (arith, w.before-is, before.below);
          }
    ]
