use Rattle.std.proofs.Common.{ℕ, ◌+◌, List, length, subst, sym, arith, refl, ◌≤◌, ◌/◌, ◌%◌, ◌^◌}
use Rattle.erasure_solve.proofs.Places.{is_lost_from}
use Rattle.std.proofs.lemmas.Bool.{ne_eqb, false≢true}
use Rattle.segment_salvage.proofs.Filling.{IsFilledBelow, filled_none, filled_lost, filled_kept, filled_all}
use Rattle.segment_salvage.proofs.cells.fill_lost.Goals as goal
use Rattle.segment_salvage.proofs.cells.fill_lost.Goals.{then-contains, else-contains}

pub loop-place-init : goal.loop-place-init
loop-place-init c = filled_none c.args.lost c.args.sectors.now

pub loop-place-preserved : goal.loop-place-preserved
loop-place-preserved c =
    let lost : ℕ = c.args.lost in
    let place : ℕ = c.loop-place.place in
    let old : List (List ℕ) = c.args.sectors.now in
    elim c.if-contains.branch [
      | then-contains w ↦
          subst (IsFilledBelow lost (place + 1) old) (sym w.sectors-is)
          (filled_lost lost place old c.loop-place.sectors c.loop-place-test.true c.loop-place.invariant
          (is_lost_from lost place (w.if-contains.ensures.lost.0 refl)))
      | else-contains w ↦
          subst (IsFilledBelow lost (place + 1) old) (sym w.sectors-is)
          (filled_kept lost place old c.loop-place.sectors c.loop-place-test.true c.loop-place.invariant
          (ne_eqb (lost / 2 ^ place % 2) 1 (λ is. false≢true (w.if-contains.ensures.lost.1 is))))
    ]

pub returns : goal.returns
returns c =
    let all : length c.args.sectors.now ≤ c.loop-place.place = omega arith in
    filled_all c.args.lost c.loop-place.place c.args.sectors.now c.loop-place.sectors all c.loop-place.invariant
