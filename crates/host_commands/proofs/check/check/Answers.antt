use Rattle.host_commands.proofs.Checks.{checked, check_failed}
use Rattle.host_commands.proofs.check.check.Goals as goal

pub returns-in-Ok : goal.returns-in-Ok
returns-in-Ok g c =
    rw c.tally_status.ensures (checked g.T.Tape.means g.K.Sink.means c.args.unit.now.tape c.check.new.unit.tape c.args.sink.now
    c.check.new.sink c.in-Ok.tally c.in-Ok.ensures)

pub returns-in-Err : goal.returns-in-Err
returns-in-Err g c =
    rw c.fault_status.ensures (check_failed g.T.Tape.means g.K.Sink.means c.args.unit.now.tape c.check.new.unit.tape c.args.sink.now
    c.check.new.sink c.in-Err.fault c.in-Err.ensures)
