use Rattle.hand_commands.specs.declared.pulses.fault.PulseFault.TheVariants as fault
use Rattle.std.proofs.Common.{Ok}
use Rattle.hand_commands.proofs.Trains.{pulses_end, pulses_failed}
use Rattle.hand_commands.proofs.pulses.pulses.Goals as goal

pub returns-in-Ok-clause-ends : goal.returns-in-Ok-clause-ends
returns-in-Ok-clause-ends g c =
    pulses_end g.T.Tape.means g.S.Source.means g.K.Sink.means
    record { tape = c.args.unit.now.tape; source = c.args.source.now; sink = c.args.sink.now }
    record { tape = c.run_pulses.new.unit.tape; source = c.run_pulses.new.source; sink = c.run_pulses.new.sink }
    c.run_pulses.new.unit.drive
    (Ok c.in-Ok.field-0) c.in-Ok.ensures.ends c.in-Ok.ensures.source_tells

pub returns-in-Err-Script-clause-ends : goal.returns-in-Err-Script-clause-ends
returns-in-Err-Script-clause-ends g c =
    pulses_failed g.T.Tape.means g.S.Source.means g.K.Sink.means
    record { tape = c.args.unit.now.tape; source = c.args.source.now; sink = c.args.sink.now }
    record { tape = c.run_pulses.new.unit.tape; source = c.run_pulses.new.source; sink = c.run_pulses.new.sink }
    c.run_pulses.new.unit.drive
    c.in-Err-Script.field-0 (fault.Script c.in-Err-Script.line c.in-Err-Script.place) c.in-Err-Script.field-0-is
    c.in-Err-Script.ensures.ends c.in-Err-Script.ensures.source_tells

pub returns-in-Err-Source-clause-ends : goal.returns-in-Err-Source-clause-ends
returns-in-Err-Source-clause-ends g c =
    pulses_failed g.T.Tape.means g.S.Source.means g.K.Sink.means
    record { tape = c.args.unit.now.tape; source = c.args.source.now; sink = c.args.sink.now }
    record { tape = c.run_pulses.new.unit.tape; source = c.run_pulses.new.source; sink = c.run_pulses.new.sink }
    c.run_pulses.new.unit.drive
    c.in-Err-Source.field-0 fault.Source c.in-Err-Source.field-0-is c.in-Err-Source.ensures.ends c.in-Err-Source.ensures.source_tells

pub returns-in-Err-Sink-clause-ends : goal.returns-in-Err-Sink-clause-ends
returns-in-Err-Sink-clause-ends g c =
    pulses_failed g.T.Tape.means g.S.Source.means g.K.Sink.means
    record { tape = c.args.unit.now.tape; source = c.args.source.now; sink = c.args.sink.now }
    record { tape = c.run_pulses.new.unit.tape; source = c.run_pulses.new.source; sink = c.run_pulses.new.sink }
    c.run_pulses.new.unit.drive
    c.in-Err-Sink.field-0 fault.Sink c.in-Err-Sink.field-0-is c.in-Err-Sink.ensures.ends c.in-Err-Sink.ensures.source_tells

pub returns-in-Err-Tape-clause-ends : goal.returns-in-Err-Tape-clause-ends
returns-in-Err-Tape-clause-ends g c =
    pulses_failed g.T.Tape.means g.S.Source.means g.K.Sink.means
    record { tape = c.args.unit.now.tape; source = c.args.source.now; sink = c.args.sink.now }
    record { tape = c.run_pulses.new.unit.tape; source = c.run_pulses.new.source; sink = c.run_pulses.new.sink }
    c.run_pulses.new.unit.drive
    c.in-Err-Tape.field-0 fault.Tape c.in-Err-Tape.field-0-is c.in-Err-Tape.ensures.ends c.in-Err-Tape.ensures.source_tells
