use Rattle.std.proofs.Common.{arith}
use Rattle.hand_commands.proofs.Hearing.{source_cut, unsent, unshown, shown}
use Rattle.hand_commands.proofs.pulses.lines.carry_out_line.Goals as goal

pub returns-in-Err-clause-hears : goal.returns-in-Err-clause-hears
returns-in-Err-clause-hears g c = (
  source_cut record { tape = c.args.unit.now.tape; source = c.args.source.now; sink = c.args.sink.now } c.read.new.source
      (g.met.K.Sink.took_nothing c.args.sink.now) c.in-Err.ensures.cause.later c.in-Err.ensures.cause.failed,
  c.in-Err.ensures.read,
)

pub returns-in-Err-send_train-clause-hears : goal.returns-in-Err-send_train-clause-hears
returns-in-Err-send_train-clause-hears g c =
    unsent g.T.Tape.means g.S.Source.means g.K.Sink.means
    record { tape = c.args.unit.now.tape; source = c.args.source.now; sink = c.args.sink.now }
    record { tape = c.send_train.new.unit.tape; source = c.read.new.source; sink = c.args.sink.now }
    c.args.unit.now.drive c.in-Ok-Train.pulses c.in-Ok-Train.read (rw c.in-Ok-Train.field-0-is at c.in-Ok-Train.ensures.read)
    c.in-Ok-Train.ensures.cause.stood (g.met.K.Sink.took_nothing c.args.sink.now) (omega arith) c.in-Err-send_train.ensures.did

pub returns-in-Err-write_text-clause-hears : goal.returns-in-Err-write_text-clause-hears
returns-in-Err-write_text-clause-hears g c =
    unshown g.T.Tape.means g.S.Source.means g.K.Sink.means
    record { tape = c.args.unit.now.tape; source = c.args.source.now; sink = c.args.sink.now }
    record { tape = c.send_train.new.unit.tape; source = c.read.new.source; sink = c.write_text.new.sink }
    c.args.unit.now.drive c.in-Ok-Train.pulses c.in-Ok-Train.read (rw c.in-Ok-Train.field-0-is at c.in-Ok-Train.ensures.read)
    c.in-Ok-Train.ensures.cause.stood c.line.result c.send_train.new.unit.drive c.level_text.result.now
    c.level_text.ensures c.line.ensures.level c.in_default.ensures.row c.in_default.ensures.did c.in-Err-write_text.ensures

pub returns-in-Ok-clause-hears : goal.returns-in-Ok-clause-hears
returns-in-Ok-clause-hears g c =
    shown g.T.Tape.means g.S.Source.means g.K.Sink.means
    record { tape = c.args.unit.now.tape; source = c.args.source.now; sink = c.args.sink.now }
    record { tape = c.send_train.new.unit.tape; source = c.read.new.source; sink = c.write_text.new.sink }
    c.args.unit.now.drive c.in-Ok-Train.pulses c.in-Ok-Train.read (rw c.in-Ok-Train.field-0-is at c.in-Ok-Train.ensures.read)
    c.in-Ok-Train.ensures.cause.stood c.line.result c.send_train.new.unit.drive c.level_text.result.now
    c.level_text.ensures c.line.ensures.level c.in_default.ensures.row c.in_default.ensures.did c.in-Ok.ensures
