use Rattle.host_commands.proofs.Mounted.{list_refused, list_printed}
use Rattle.host_commands.proofs.list.list.Goals as goal

pub returns-in-Ok : goal.returns-in-Ok
returns-in-Ok g c =
    rw c.printed.ensures (list_printed g.T.Tape.means g.K.Sink.means c.args.unit.now.tape c.open.new.unit c.args.sink.now
    c.write_list.new.sink c.in-Ok.store c.write_list.result c.in-Ok.ensures
    c.write_list.ensures)

pub returns-in-Err : goal.returns-in-Err
returns-in-Err g c =
    list_refused g.T.Tape.means g.K.Sink.means c.args.unit.now.tape c.open.new.unit c.args.sink.now c.in-Err.status
    g.met.K.Sink.took_nothing c.in-Err.ensures
