use Rattle.host_commands.proofs.Mounted.{never_short, open_absent, open_failed}
use Rattle.host_commands.proofs.opening.open.Goals as goal

pub returns-in-Ok-None : goal.returns-in-Ok-None
returns-in-Ok-None g c =
    open_absent g.T.Tape.means c.args.unit.now.tape c.open.new.unit (rw c.in-Ok-None.field-0-is at c.in-Ok-None.ensures)

pub store_status-requires : goal.store_status-requires
store_status-requires g c = never_short g.T.Tape.means c.args.unit.now.tape c.open.new.unit.tape c.in-Err.fault c.in-Err.ensures

pub returns-in-Err : goal.returns-in-Err
returns-in-Err g c = rw c.store_status.ensures
    (open_failed g.T.Tape.means c.args.unit.now.tape c.open.new.unit c.in-Err.fault c.in-Err.ensures)
