use Rattle.std.proofs.Common.{◌≡◌, ℕ, ◌+◌, List, [], get_or, set, refl, subst, sym, arith}
use Rattle.std.proofs.lemmas.Bool.{false≢true}
use Rattle.cartridge_laws.proofs.Places.{count_below}
use Rattle.qic_base.specs.CartridgeTerms.{IsLost}
use Rattle.segment_io.proofs.ChosenSectors.{AreSpread, begun, passed_by, moved, spread_as, chosen_of_first}
use Rattle.segment_io.proofs.places.spread.Goals as goal
use Rattle.segment_io.proofs.places.spread.Goals.{then-contains, else-contains}

pub loop-index-init : goal.loop-index-init
loop-index-init c = begun c.args.usable c.args.sectors.now _ refl

pub bounds-sectors-place : goal.bounds-sectors-place
bounds-sectors-place c = omega (arith, count_below c.args.usable c.loop-index.index)

pub overflow_add-place : goal.overflow_add-place
overflow_add-place c = omega (arith, count_below c.args.usable c.loop-index.index)

pub loop-index-preserved : goal.loop-index-preserved
loop-index-preserved c =
    let usable : ℕ = c.args.usable in
    let place : ℕ = c.loop-index.place in
    let index : ℕ = c.loop-index.index in
    let sectors : List (List ℕ) = c.args.sectors.now in
    let now : List (List ℕ) = c.loop-index.spread in
    elim c.if-contains.branch [
      | then-contains w ↦
          let used : IsLost usable index = subst (λ (m : ℕ). IsLost m index) c.from_mask.ensures (w.if-contains.ensures.lost.0 refl) in
          spread_as usable (place + 1) c.if-contains.place (index + 1) sectors (set now index (get_or sectors place []))
          c.if-contains.spread
          (moved usable place index sectors now used c.loop-index-test.true c.loop-index.invariant)
          w.place-is w.spread-is
      | else-contains w ↦
          let kept : IsLost usable index → ⊥ =
          λ is. false≢true (w.if-contains.ensures.lost.1 (subst (λ (m : ℕ). IsLost m index) (sym c.from_mask.ensures) is)) in
          spread_as usable place c.if-contains.place (index + 1) sectors now c.if-contains.spread
          (passed_by usable place index sectors now kept c.loop-index.invariant)
          w.place-is w.spread-is
    ]

pub returns : goal.returns
returns c =
    let end : c.loop-index.index ≡ 32 = omega arith in
    chosen_of_first c.args.usable c.args.sectors.now c.loop-index.spread (omega (arith, count_below c.args.usable 32))
    (subst (λ (i : ℕ). AreSpread c.args.usable i c.args.sectors.now c.loop-index.spread) end c.loop-index.invariant.stand)
