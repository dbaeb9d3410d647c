use Rattle.std.proofs.Common.{◌≡◌, Err}
use Rattle.qic_base.specs.Alone.{around}
use Rattle.command_laws.proofs.Passing.{passed}
use Rattle.volume_store.specs.Opening.{HasStarted}
use Rattle.cartridge_check.specs.declared.fault.CheckFault.TheVariants.{Tape}
use Rattle.cartridge_check.proofs.Ending.{ends_since, unstarted}
use Rattle.cartridge_check.proofs.checking.check.Goals as goal

pub returns-in_err-host : goal.returns-in_err-host
returns-in_err-host g c =
    let is : c.from_residual.result ≡ Err Tape = passed c.from_residual.result Tape c.from_residual.ensures.1 in
    rw is (unstarted g.T.Tape.means g.K.Sink.means c.args.unit.now.tape c.start.new.unit.tape c.args.sink.now g.met.K.Sink.took_nothing
    c.in_err-host.ensures)

pub returns-in-Some : goal.returns-in-Some
returns-in-Some g c =
    let started : HasStarted g.T.Tape.means c.args.unit.now c.start.new.unit c.in-Some.host = rw c.in-Some.is at c.in_ok-host.ensures in
    ends_since g.T.Tape.means g.K.Sink.means c.args.unit.now.tape c.start.new.unit.tape c.args.sink.now
    (around c.check_started.new.unit.tape c.check_started.new.sink) started.did g.met.K.Sink.took_both g.met.K.Sink.took_nothing
    c.check_started.result c.check_started.ensures
