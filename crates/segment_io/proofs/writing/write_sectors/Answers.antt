use Rattle.std.proofs.Common.{◌≡◌, ℕ, List, length, refl, ap, subst, sym, ◌∙◌, arith}
use Rattle.std.proofs.lemmas.Bool.{false≢true}
use Rattle.std.proofs.lemmas.Result.{err_from_is_err_and}
use Rattle.qic_base.specs.Cartridge.{lost_places}
use Rattle.qic_base.specs.CartridgeTerms.{IsLost}
use Rattle.qic_base.specs.Step.{Step}
use Rattle.qic_base.specs.Tape.{Done, Broke}
use Rattle.cartridge_spec.specs.Shape.{usable_count}
use Rattle.cartridge_laws.specs.Writes.{named_writes}
use Rattle.cartridge_laws.proofs.Places.{none_below, count_below}
use Rattle.host_driver.proofs.Keeping.{may_write_kept}
use Rattle.segment_io.proofs.Going.{under_first, done_moved}
use Rattle.segment_io.proofs.NamedWrites.{writes_below, writes_below_none, writes_below_all, passed_by, left_out, wrote, broke_off}
use Rattle.segment_io.proofs.writing.write_sectors.Goals as goal
use Rattle.segment_io.proofs.writing.write_sectors.Goals.{then-contains, then-contains-2+in_ok-write_sector, else-contains-2, else-contains}

pub loop-index-init : goal.loop-index-init
loop-index-init g c = record {
  count = sym (ap (λ (l : List ℕ). length l) (none_below c.args.usable));
  size = c.sectors-sectors.ensures.size;
  written = subst (λ (steps : List Step). Done g.T.Tape.means c.args.unit.now.tape c.go_to.new.unit.tape steps)
      (sym (writes_below_none c.args.segment c.args.usable c.args.places c.sectors-sectors.result.now))
      (done_moved g.T.Tape.means c.args.unit.now.tape c.go_to.new.unit.tape c.go_to.ensures.tape);
  under = under_first c.args.segment c.go_to.new.unit.drive.deck c.go_to.ensures.place;
  writable = may_write_kept c.args.unit.now.drive.deck c.go_to.new.unit.drive.deck c.go_to.ensures.keeps.same c.requires.can.writable;
  keeps = c.go_to.ensures.keeps;
}

pub overflow_add-place : goal.overflow_add-place
overflow_add-place g c = omega (arith, c.loop-index.invariant.count, count_below c.args.usable c.loop-index.index)

pub loop-index-preserved : goal.loop-index-preserved
loop-index-preserved g c =
    let segment : ℕ = c.args.segment in
    let usable : ℕ = c.args.usable in
    let places : ℕ = c.args.places in
    let sectors : List (List ℕ) = c.sectors-sectors.result.now in
    let place : ℕ = c.loop-index.place in
    let index : ℕ = c.loop-index.index in
    let before = c.loop-index.invariant in
    elim c.if-contains.branch [
      | then-contains w ↦
          let used : IsLost usable index = subst (λ (m : ℕ). IsLost m index) c.from_mask.ensures (w.if-contains.ensures.lost.0 refl) in
          elim w.if-contains-2.branch [
            | then-contains-2+in_ok-write_sector v ↦
                rw (w.host-is, w.unit-is, w.place-is, v.host-is, v.unit-is)
                (wrote segment usable places sectors place index c.loop-index.host v.write_sector.new.self c.args.unit.now c.loop-index.unit
                v.write_sector.new.unit used c.loop-index-test.true (v.if-contains-2.ensures.lost.0 refl) v.in_ok-write_sector.ensures.did
                v.in_ok-write_sector.ensures.under v.in_ok-write_sector.ensures.keeps before)
            | else-contains-2 v ↦
                rw (w.host-is, w.unit-is, w.place-is, v.host-is, v.unit-is)
                (left_out segment usable places sectors place index c.loop-index.host c.args.unit.now c.loop-index.unit used
                (λ is. false≢true (v.if-contains-2.ensures.lost.1 is)) before)
          ]
      | else-contains w ↦
          let kept : IsLost usable index → ⊥ =
          λ is. false≢true (w.if-contains.ensures.lost.1 (subst (λ (m : ℕ). IsLost m index) (sym c.from_mask.ensures) is)) in
          rw (w.host-is, w.unit-is, w.place-is)
          (passed_by segment usable places sectors place index c.loop-index.host c.args.unit.now c.loop-index.unit kept before)
    ]

pub returns-in_err-write_sector-clause-did : goal.returns-in_err-write_sector-clause-did
returns-in_err-write_sector-clause-did g c =
    let sectors : List (List ℕ) = c.sectors-sectors.result.now in
    let used : IsLost c.args.usable c.loop-index.index =
    subst (λ (m : ℕ). IsLost m c.loop-index.index) c.from_mask.ensures (c.if-contains.ensures.lost.0 refl) in
    let broke : Broke g.T.Tape.means c.args.unit.now.tape c.write_sector.new.unit.tape
    (named_writes c.args.segment c.args.usable c.args.places sectors) =
    broke_off c.args.segment c.args.usable c.args.places sectors c.loop-index.place c.loop-index.index c.loop-index.host c.args.unit.now
    c.loop-index.unit c.write_sector.new.unit used c.loop-index-test.true (c.if-contains-2.ensures.lost.0 refl)
    c.in_err-write_sector.ensures.did c.loop-index.invariant in
    let whole : Broke g.T.Tape.means c.args.unit.now.tape c.write_sector.new.unit.tape
    (named_writes c.args.segment c.args.usable c.args.places c.args.work.now) =
    rw c.sectors-sectors.ensures.value at broke in
    let p = err_from_is_err_and c.from_residual.result c.from_residual.ensures.1 in
    rw p.1 whole

pub returns-clause-did : goal.returns-clause-did
returns-clause-did g c =
    let before = c.loop-index.invariant in
    let sectors : List (List ℕ) = c.sectors-sectors.result.now in
    let last : c.loop-index.index ≡ 32 = omega arith in
    let all : c.loop-index.place ≡ usable_count c.args.usable =
    before.count ∙ ap (λ (n : ℕ). length (lost_places c.args.usable n)) last in
    let steps : writes_below c.args.segment c.args.usable c.args.places sectors c.loop-index.place
    ≡ named_writes c.args.segment c.args.usable c.args.places c.args.work.now =
    ap (writes_below c.args.segment c.args.usable c.args.places sectors) all
    ∙ writes_below_all c.args.segment c.args.usable c.args.places sectors c.requires.within
    ∙ ap (named_writes c.args.segment c.args.usable c.args.places) c.sectors-sectors.ensures.value in
    subst (λ (ss : List Step). Done g.T.Tape.means c.args.unit.now.tape c.loop-index.unit.tape ss) steps before.written
