use Rattle.host_commands.proofs.Rooms.{never_short, room_absent, room_refused, room_printed}
use Rattle.host_commands.proofs.room.tell_room.Goals as goal

pub store_status-requires : goal.store_status-requires
store_status-requires g c = never_short g.T.Tape.means c.args.unit.now.tape c.find_room.new.unit.tape c.in-Err.fault c.in-Err.ensures

pub returns-in-Ok-Some : goal.returns-in-Ok-Some
returns-in-Ok-Some g c =
    rw c.printed.ensures (room_printed g.T.Tape.means g.K.Sink.means c.args.unit.now.tape c.find_room.new.unit c.args.sink.now
    c.write_text.new.sink c.in-Ok-Some.bytes c.write_text.result (rw c.in-Ok-Some.field-0-is at c.in-Ok-Some.ensures)
    (rw (c.bytes.ensures, c.number_text.ensures, c.from.ensures) at c.write_text.ensures))

pub returns-in-Ok-None : goal.returns-in-Ok-None
returns-in-Ok-None g c =
    room_absent g.T.Tape.means g.K.Sink.means c.args.unit.now.tape c.find_room.new.unit c.args.sink.now g.met.K.Sink.took_nothing
    (rw c.in-Ok-None.field-0-is at c.in-Ok-None.ensures)

pub returns-in-Err : goal.returns-in-Err
returns-in-Err g c =
    rw c.store_status.ensures (room_refused g.T.Tape.means g.K.Sink.means c.args.unit.now.tape c.find_room.new.unit c.args.sink.now
    c.in-Err.fault g.met.K.Sink.took_nothing c.in-Err.ensures)
