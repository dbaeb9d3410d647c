use Rattle.std.proofs.Common.{◌≡◌, ℕ, ◌+◌, ◌-◌, ◌<◌, sym, ◌∙◌, subst, arith, length, List, set}
use Rattle.std.proofs.lemmas.Bool.{false≢true}
use Rattle.qic_base.specs.CartridgeTerms.{IsLost}
use Rattle.qic_base.specs.Cartridge.{lost_places}
use Rattle.erasure_solve.proofs.Places.{Gathered, gathered_none, gathered_kept, gathered_lost, found_below, degrees_from}
use Rattle.erasure_solve.proofs.plan.degrees.Goals as goal
use Rattle.erasure_solve.proofs.plan.degrees.Goals.{then-contains, else-contains}

pub loop-place-init : goal.loop-place-init
loop-place-init c = gathered_none c.args.lost.now c.args.count

pub bounds-degrees-found : goal.bounds-degrees-found
bounds-degrees-found c =
    let lost : IsLost c.args.lost.now c.loop-place.place = c.contains.ensures.lost.0 c.if-contains.true in
    let room : length (lost_places c.args.lost.now c.loop-place.place) < 3 =
    found_below c.args.lost.now c.args.count c.loop-place.place c.loop-place-test.true c.requires.most lost c.requires.few in
    let number : c.loop-place.found ≡ length (lost_places c.args.lost.now c.loop-place.place) = c.loop-place.invariant.number in
    omega arith

pub loop-place-preserved : goal.loop-place-preserved
loop-place-preserved c =
    let mask : ℕ = c.args.lost.now in
    let count : ℕ = c.args.count in
    let place : ℕ = c.loop-place.place in
    let Now : ℕ → List ℕ → Type 0 = λ f ds. Gathered mask count (place + 1) f ds in
    elim c.if-contains.branch [
      | then-contains w ↦
          let lost : IsLost mask place = c.contains.ensures.lost.0 w.if-contains.true in
          let room : length (lost_places mask place) < 3 =
          found_below mask count place c.loop-place-test.true c.requires.most lost c.requires.few in
          let number : c.loop-place.found ≡ length (lost_places mask place) = c.loop-place.invariant.number in
          let new : List ℕ = set c.loop-place.degrees c.loop-place.found (count - 1 - place) in
          subst (λ (ds : List ℕ). Now c.if-contains.found ds) (sym w.degrees-is)
          (subst (λ (f : ℕ). Now f new) (sym w.found-is)
          (gathered_lost mask count place c.loop-place.found c.loop-place.degrees lost c.loop-place-test.true
          (omega arith) c.loop-place.invariant))
      | else-contains w ↦
          let kept : IsLost mask place → ⊥ =
          λ lost. false≢true (sym w.if-contains.false ∙ c.contains.ensures.lost.1 lost) in
          subst (λ (ds : List ℕ). Now c.if-contains.found ds) (sym w.degrees-is)
          (subst (λ (f : ℕ). Now f c.loop-place.degrees) (sym w.found-is)
          (gathered_kept mask count place c.loop-place.found c.loop-place.degrees kept c.loop-place.invariant))
    ]

pub returns : goal.returns
returns c =
    let end : c.loop-place.place ≡ c.args.count = omega arith in
    degrees_from c.args.lost.now c.args.count c.loop-place.found c.loop-place.degrees c.requires.most c.requires.few
    (subst (λ (p : ℕ). Gathered c.args.lost.now c.args.count p c.loop-place.found c.loop-place.degrees) end c.loop-place.invariant)
