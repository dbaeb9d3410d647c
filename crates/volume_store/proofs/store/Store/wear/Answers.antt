use Rattle.volume_store.specs.Mounting.{StoreView}
use Rattle.volume_store.proofs.Restored.{still_fits}
use Rattle.volume_store.proofs.Worn.{worn_lists}
use Rattle.volume_store.proofs.store.Store.wear.Goals as goal

pub returns-clause-fits : goal.returns-clause-fits
returns-clause-fits g c =
    let store : StoreView = c.args.self.now in
    worn_lists g.T.Tape.means c.args.unit.now c.wear.new.unit c.args.segment c.args.sector store.entries c.wear.result
    c.wear.ensures.misplaced c.wear.ensures.placed c.requires.fits.volumes
    (still_fits g.T.Tape.means _ store _ _ c.args.unit.now _ c.self.view_is c.requires.fits c.wear.ensures.keeps)
