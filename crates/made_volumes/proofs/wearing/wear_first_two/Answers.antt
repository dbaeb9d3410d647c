use Rattle.std.proofs.Common.{◌≡◌, ℕ, ◌+◌, ◌<◌, ◌∷◌, [], List, length, Err, Ok, refl, sym, ap, ◌∙◌, subst, arith}
use Rattle.std.proofs.lemmas.Grind.{common_steps}
use Rattle.std.proofs.lemmas.List.{length-append}
use Rattle.qic_base.specs.Alone.{around, no_sink}
use Rattle.qic_base.specs.CartridgeTerms.{IsLost}
use Rattle.cartridge_spec.specs.Shape.{mask_at}
use Rattle.drive_states.specs.Unit.{UnitView}
use Rattle.volume_store.specs.Mounting.{StoreView}
use Rattle.qic_base.specs.declared.store_fault.StoreFault.{StoreFault}
use Rattle.command_spec.specs.Make.{WearSector}
use Rattle.command_laws.specs.MadeTerms.{wearing}
use Rattle.made_volumes.specs.Runs.{HasRun, RunEnds}
use Rattle.made_volumes.proofs.Going.{two_none, wear_begun, wear_next, wear_failed, two_stay}
use Rattle.made_volumes.proofs.Loops.{two_below, two_next, two_passed}
use Rattle.made_volumes.proofs.wearing.wear_first_two.Goals.{then-worn-lt-WORN+then-contains+in_ok-wear_sector, else-worn-lt-WORN}
use Rattle.made_volumes.proofs.wearing.wear_first_two.Goals.{else-worn-lt-WORN-via-then-worn-lt-WORN+else-contains}
use Rattle.made_volumes.proofs.wearing.wear_first_two.Goals.{else-worn-lt-WORN-via-else-worn-lt-WORN}
use Rattle.made_volumes.proofs.wearing.wear_first_two.Goals as goal
use Rattle.command_spec.specs.declared.status.Status.TheVariants as status

pub loop-sector-init : goal.loop-sector-init
loop-sector-init g c = record {
  ran = wear_begun g.T.Tape.means c.args.store.now.words c.args.store.now.entries c.args.segment c.args.unit.now.tape c.args.unit.now.tape
      c.args.unit.now.tape;
  worn = sym (ap length (two_none (mask_at c.args.store.now.words c.args.segment)));
  store = refl;
  fits = c.requires.fits;
}

pub returns-in_err-wear_sector-clause-ends : goal.returns-in_err-wear_sector-clause-ends
returns-in_err-wear_sector-clause-ends g c = λ seed.
    let fault : StoreFault = c.in_err-wear_sector.field-0.0 in
    let is : c.from_residual.result ≡ Err fault = grind (arith, common_steps, c.from_residual.ensures) in
    let before = c.loop-sector.invariant in
    let mask_is : c.from_mask-usable.result ≡ mask_at c.args.store.now.words c.args.segment = c.from_mask-usable.ensures
    ∙ c.usable.ensures in
    let usable : IsLost (mask_at c.args.store.now.words c.args.segment) c.loop-sector.sector =
    subst (λ (m : ℕ). IsLost m c.loop-sector.sector) mask_is (c.if-contains.ensures.lost.0 refl) in
    let few : length (two_below (mask_at c.args.store.now.words c.args.segment) c.loop-sector.sector) < 2 =
    omega (arith, before.worn, c.if-worn-lt-WORN.true) in
    rw is (wear_failed g.T.Tape.means c.args.store.now.words c.args.store.now.entries c.args.segment c.args.unit.now.tape
    c.loop-sector.unit.tape c.wear_sector.new.unit.tape
    seed c.loop-sector.sector fault (omega arith) usable few (before.ran seed)
    (subst (λ (n : ℕ). RunEnds g.T.Tape.means no_sink seed c.args.store.now.words c.args.store.now.entries
    (WearSector c.args.segment n ∷ [])
    (around c.loop-sector.unit.tape tt) (around c.wear_sector.new.unit.tape tt) (Err fault)) c.from.ensures
    (subst (λ (s : StoreView). RunEnds g.T.Tape.means no_sink seed s.words s.entries (WearSector c.args.segment c.from.result ∷ [])
    (around c.loop-sector.unit.tape tt) (around c.wear_sector.new.unit.tape tt) (Err fault)) before.store
    (c.in_err-wear_sector.ensures.ends seed))))

pub loop-sector-preserved : goal.loop-sector-preserved
loop-sector-preserved g c =
    let before = c.loop-sector.invariant in
    let mask : ℕ = mask_at c.args.store.now.words c.args.segment in
    let mask_is : c.from_mask-usable.result ≡ mask = c.from_mask-usable.ensures ∙ c.usable.ensures in
    let sector : ℕ = c.loop-sector.sector in
    elim c.if-worn-lt-WORN.branch [
      | then-worn-lt-WORN+then-contains+in_ok-wear_sector w ↦
          let usable : IsLost mask sector = subst (λ (m : ℕ). IsLost m sector) mask_is (w.if-contains.ensures.lost.0 refl) in
          let few : length (two_below mask sector) < 2 = omega (arith, before.worn, w.if-worn-lt-WORN.true) in
          let long : length (two_below mask (sector + 1)) ≡ length (two_below mask sector) + 1 =
          ap length (two_next mask sector usable few) ∙ length-append (two_below mask sector) (sector ∷ []) in
          record {
            ran = λ seed. subst (λ (u : UnitView g.row.T.Denot). HasRun g.T.Tape.means no_sink seed c.args.store.now.words
                c.args.store.now.entries
                (wearing c.args.segment (two_below mask (sector + 1))) (around c.args.unit.now.tape tt) (around u.tape tt) status.Done)
                (sym w.unit-is)
                (wear_next g.T.Tape.means c.args.store.now.words c.args.store.now.entries c.args.segment c.args.unit.now.tape
                c.loop-sector.unit.tape w.wear_sector.new.unit.tape
                seed sector (Ok tt) usable few (before.ran seed)
                (subst (λ (n : ℕ). RunEnds g.T.Tape.means no_sink seed c.args.store.now.words c.args.store.now.entries
                (WearSector c.args.segment n ∷ [])
                (around c.loop-sector.unit.tape tt) (around w.wear_sector.new.unit.tape tt) (Ok tt)) w.from.ensures
                (subst (λ (s : StoreView). RunEnds g.T.Tape.means no_sink seed s.words s.entries
                (WearSector c.args.segment w.from.result ∷ [])
                (around c.loop-sector.unit.tape tt) (around w.wear_sector.new.unit.tape tt) (Ok tt)) before.store
                (w.in_ok-wear_sector.ensures.ends seed))));
            worn = omega (arith, w.worn-is, before.worn, long);
            store = w.store-is ∙ w.in_ok-wear_sector.ensures.store ∙ before.store;
            fits = rw (w.store-is, w.unit-is) (w.in_ok-wear_sector.ensures.fits (λ is. cc));
          }
      | else-worn-lt-WORN w ↦
          let stay : two_below mask (sector + 1) ≡ two_below mask sector = elim w.else-worn-lt-WORN.branch [
            | else-worn-lt-WORN-via-then-worn-lt-WORN+else-contains v ↦
                two_passed mask sector (λ lost. let yes = v.if-contains.ensures.lost.1
                (subst (λ (m : ℕ). IsLost m sector) (sym mask_is) lost) in cc)
            | else-worn-lt-WORN-via-else-worn-lt-WORN v ↦ two_stay mask sector (omega (arith, before.worn, v.if-worn-lt-WORN.false))
          ] in
          record {
            ran = λ seed. subst (λ (u : UnitView g.row.T.Denot). HasRun g.T.Tape.means no_sink seed c.args.store.now.words
                c.args.store.now.entries
                (wearing c.args.segment (two_below mask (sector + 1))) (around c.args.unit.now.tape tt) (around u.tape tt) status.Done)
                (sym w.unit-is)
                (subst (λ (xs : List ℕ). HasRun g.T.Tape.means no_sink seed c.args.store.now.words c.args.store.now.entries
                (wearing c.args.segment xs) (around c.args.unit.now.tape tt) (around c.loop-sector.unit.tape tt) status.Done) (sym stay)
                (before.ran seed));
            worn = w.worn-is ∙ before.worn ∙ sym (ap length stay);
            store = w.store-is ∙ before.store;
            fits = rw (w.store-is, w.unit-is) before.fits;
          }
    ]
