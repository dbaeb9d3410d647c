use Rattle.made_volumes.proofs.Others.{wear_done, wear_broke}
use Rattle.made_volumes.proofs.Stores.{place_of}
use Rattle.std.proofs.Common.{◌≡◌, Err, arith}
use Rattle.std.proofs.lemmas.Grind.{common_steps}
use Rattle.qic_base.specs.declared.store_fault.StoreFault.TheVariants as fault
use Rattle.made_volumes.proofs.wearing.wear_sector.Goals as goal

pub returns-clause-ends : goal.returns-clause-ends
returns-clause-ends g c = λ seed.
    wear_done g.T.Tape.means seed c.args.store.now.words c.args.store.now.entries c.args.segment c.args.sector c.args.unit.now.tape
    c.wear.new.unit.tape
    (rw c.in-Ok.is at c.in_ok-wear.ensures.placed (place_of g.T.Tape.means c.args.store.now c.args.unit.now c.requires.fits c.args.segment
    c.args.sector c.requires.segment c.requires.sector))

pub returns-in_err-wear-clause-ends : goal.returns-in_err-wear-clause-ends
returns-in_err-wear-clause-ends g c = λ seed.
    let is : c.from_residual.result ≡ Err fault.Tape = grind (arith, common_steps, c.from_residual.ensures) in
    rw is (wear_broke g.T.Tape.means seed c.args.store.now.words c.args.store.now.entries c.args.segment c.args.sector c.args.unit.now.tape
    c.wear.new.unit.tape
    (c.in_err-wear.ensures.placed (place_of g.T.Tape.means c.args.store.now c.args.unit.now c.requires.fits c.args.segment c.args.sector
    c.requires.segment c.requires.sector)))
