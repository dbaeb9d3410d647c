use Rattle.command_laws.proofs.Passing.{passed}
use Rattle.qic_base.specs.declared.store_fault.StoreFault.{StoreFault}
use Rattle.volume_store.proofs.Mounted.{cut_first, open_shown, open_failed}
use Rattle.volume_store.proofs.Started.{there_of, present}
use Rattle.volume_store.specs.Opening.{HasStarted}
use Rattle.qic_base.specs.declared.store_fault.StoreFault.TheVariants as fault
use Rattle.volume_store.proofs.opening.open.Goals as goal

pub returns-in_err-host : goal.returns-in_err-host
returns-in_err-host g c =
    rw (passed c.from_residual.result fault.Tape c.from_residual.ensures.1)
    (cut_first g.T.Tape.means c.args.unit.now.tape c.start.new.unit.tape c.in_err-host.ensures)

pub returns-in_err-store : goal.returns-in_err-store
returns-in_err-store g c =
    let m = g.T.Tape.means in
    let started : HasStarted m c.args.unit.now c.start.new.unit c.in-Some.host = rw c.in-Some.is at c.in_ok-host.ensures in
    let why : StoreFault = c.in_err-store.field-0.0 in
    rw (passed c.from_residual-in_err-store.result why c.from_residual-in_err-store.ensures.1)
    (open_failed _ m c.args.unit.now.tape c.start.new.unit.tape c.mount.new.unit (there_of started).info why
    (present started) c.in_err-store.ensures.did c.in_err-store.ensures.kind c.in_err-store.ensures.cause)

pub returns : goal.returns
returns g c =
    let m = g.T.Tape.means in
    let started : HasStarted m c.args.unit.now c.start.new.unit c.in-Some.host = rw c.in-Some.is at c.in_ok-host.ensures in
    open_shown m c.args.unit.now.tape c.start.new.unit.tape c.mount.new.unit (there_of started).info c.in_ok-store.store
    (present started) c.in_ok-store.ensures.did c.in_ok-store.ensures.fits
