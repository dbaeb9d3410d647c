use Rattle.std.proofs.Common.{Some, None, Ok, Err, ap}
use Rattle.command_laws.proofs.Passing.{passed}
use Rattle.qic_base.specs.declared.store_fault.StoreFault.{StoreFault}
use Rattle.volume_store.specs.Mounting.{StoreView}
use Rattle.volume_store.proofs.Parts.{no_part, of_volume, part_failed, part_tells}
use Rattle.volume_store.proofs.Restored.{still_fits}
use Rattle.volume_store.proofs.store.Store.part.Goals as goal

pub returns-in_err-volume-clause-ends : goal.returns-in_err-volume-clause-ends
returns-in_err-volume-clause-ends g c =
    let why : StoreFault = c.in_err-volume.field-0.0 in
    rw (passed c.from_residual.result why c.from_residual.ensures.1)
    (no_part g.T.Tape.means _ c.args.part c.args.self.now c.args.number why c.in_err-volume.ensures.found)

pub returns-in_default-clause-ends : goal.returns-in_default-clause-ends
returns-in_default-clause-ends g c =
    let found = c.in_ok-volume.ensures.found in (
      found.0,
      found.1,
      of_volume g.T.Tape.means _ _ c.args.part c.read_part.new.work c.args.self.now c.args.number c.self.inside.map
          c.in_ok-volume.volume (ap (λ (v : StoreView). v.words) c.self.view_is) found (Ok None)
          (rw c.in_default.is at c.in_ok-found.ensures.ends),
    )

pub returns-clause-ends : goal.returns-clause-ends
returns-clause-ends g c =
    let found = c.in_ok-volume.ensures.found in (
      found.0,
      found.1,
      of_volume g.T.Tape.means _ _ c.args.part c.read_part.new.work c.args.self.now c.args.number c.self.inside.map
          c.in_ok-volume.volume (ap (λ (v : StoreView). v.words) c.self.view_is) found (Ok (Some c.in-Some.read))
          (rw c.in-Some.is at c.in_ok-found.ensures.ends),
    )

pub returns-in_err-found-clause-ends : goal.returns-in_err-found-clause-ends
returns-in_err-found-clause-ends g c =
    let why : StoreFault = c.in_err-found.field-0.0 in
    rw (passed c.from_residual-in_err-found.result why c.from_residual-in_err-found.ensures.1)
    (part_failed g.T.Tape.means _ _ c.args.part c.read_part.new.work c.args.self.now c.args.number c.self.inside.map
    c.in_ok-volume.volume (ap (λ (v : StoreView). v.words) c.self.view_is) c.in_ok-volume.ensures.found why c.in_err-found.ensures.ends)

pub returns-in_err-found-clause-fits : goal.returns-in_err-found-clause-fits
returns-in_err-found-clause-fits g c =
    still_fits g.T.Tape.means _ c.args.self.now _ _ c.args.unit.now _ c.self.view_is c.requires.fits c.read_part.ensures.keeps
    (part_tells g.T.Tape.means _ _ c.args.part c.read_part.new.work _ _ (Err c.in_err-found.field-0.0) _ c.in_err-found.ensures.ends
    c.requires.fits.volumes)
