use Rattle.std.proofs.Common.{◌≡◌, ℕ, ◌+◌, ◌/◌, ◌%◌, ◌^◌, true, false, List, [], get_or, set, refl, subst, sym, ◌∙◌, arith}
use Rattle.std.proofs.Math.Pow.{pow-lt}
use Rattle.std.proofs.lemmas.Bool.{ne_eqb, false≢true}
use Rattle.cartridge_laws.proofs.Places.{count_below}
use Rattle.erasure_solve.proofs.Places.{is_lost_from}
use Rattle.qic_base.specs.CartridgeTerms.{IsLost, is_lost}
use Rattle.segment_salvage.proofs.CellsGathered.{IsGathered, IsMore, gathered_none, gathered_kept, gathered_more, gathered_as, gathered_all}
use Rattle.segment_salvage.proofs.CellsGathered.{more_same}
use Rattle.segment_salvage.proofs.gathering.gather.Goals as goal
use Rattle.segment_salvage.proofs.gathering.gather.Goals.{then-contains, then-contains-2, else-contains-2, else-contains}

pub loop-index-init : goal.loop-index-init
loop-index-init c =
    subst (λ (lost : ℕ). IsGathered c.args.usable c.args.unread lost 0 0 c.args.sectors.now c.args.sectors.now)
    (sym c.from_mask-lost.ensures)
    (gathered_none c.args.usable c.args.unread c.args.sectors.now c.requires)

pub bounds-sectors-place : goal.bounds-sectors-place
bounds-sectors-place c = omega (arith, count_below c.args.usable c.loop-index.index)

pub with_place-lost-requires : goal.with_place-lost-requires
with_place-lost-requires c = omega (arith, count_below c.args.usable c.loop-index.index)

pub overflow_add-place : goal.overflow_add-place
overflow_add-place c = omega (arith, count_below c.args.usable c.loop-index.index)

pub loop-index-preserved : goal.loop-index-preserved
loop-index-preserved c =
    let usable : ℕ = c.args.usable in
    let unread : ℕ = c.args.unread in
    let lost : ℕ = c.loop-index.lost in
    let place : ℕ = c.loop-index.place in
    let index : ℕ = c.loop-index.index in
    let old : List (List ℕ) = c.args.sectors.now in
    let now : List (List ℕ) = c.loop-index.sectors in
    let bytes : List ℕ = get_or now index [] in
    elim c.if-contains.branch [
      | then-contains w ↦
          let used : IsLost usable index = subst (λ (m : ℕ). IsLost m index) c.from_mask.ensures (w.if-contains.ensures.lost.0 refl) in
          let more : IsMore lost w.if-contains-2.lost place (is_lost unread index) =
          elim w.if-contains-2.branch [
            | then-contains-2 v ↦
                let there : is_lost unread index ≡ true = is_lost_from unread index (v.if-contains-2.ensures.lost.0 refl) in
                let one : ℕ = v.with_place-lost.result in
                subst (λ (s : ℕ). IsMore lost s place (is_lost unread index)) (sym v.lost-is)
                (record {
                  others = v.with_place-lost.ensures.others;
                  here = is_lost_from one place v.with_place-lost.ensures.more ∙ sym there;
                  within = v.with_place-lost.ensures.below (place + 1) (omega arith)
                      (omega (arith, c.loop-index.invariant.within, pow-lt {i = place} {j = place + 1} (omega arith)));
                })
            | else-contains-2 v ↦
                let there : is_lost unread index ≡ false =
                ne_eqb (unread / 2 ^ index % 2) 1 (λ is. false≢true (v.if-contains-2.ensures.lost.1 is)) in
                subst (λ (s : ℕ). IsMore lost s place (is_lost unread index)) (sym v.lost-is)
                (subst (IsMore lost lost place) (sym there) (more_same lost place c.loop-index.invariant.within))
          ] in
          gathered_as usable unread w.if-contains-2.lost c.if-contains.lost (place + 1) c.if-contains.place (index + 1) old
          (set now place bytes) c.if-contains.sectors
          (gathered_more usable unread lost w.if-contains-2.lost place index old now bytes used c.loop-index-test.true
          c.loop-index.invariant refl more)
          w.lost-is w.place-is w.sectors-is
      | else-contains w ↦
          let kept : IsLost usable index → ⊥ =
          λ is. false≢true (w.if-contains.ensures.lost.1 (subst (λ (m : ℕ). IsLost m index) (sym c.from_mask.ensures) is)) in
          gathered_as usable unread lost c.if-contains.lost place c.if-contains.place (index + 1) old now c.if-contains.sectors
          (gathered_kept usable unread lost place index old now kept c.loop-index.invariant)
          w.lost-is w.place-is w.sectors-is
    ]

pub returns-clause-cells : goal.returns-clause-cells
returns-clause-cells c =
    let end : c.loop-index.index ≡ 32 = omega arith in
    (gathered_all c.args.usable c.args.unread c.loop-index.lost c.loop-index.place c.loop-index.index c.args.sectors.now
    c.loop-index.sectors end c.loop-index.invariant).cells

pub returns-clause-within : goal.returns-clause-within
returns-clause-within c =
    let end : c.loop-index.index ≡ 32 = omega arith in
    (gathered_all c.args.usable c.args.unread c.loop-index.lost c.loop-index.place c.loop-index.index c.args.sectors.now
    c.loop-index.sectors end c.loop-index.invariant).within
