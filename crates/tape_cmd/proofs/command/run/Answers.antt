use Rattle.std.proofs.Common.{map, string_bytes}
use Rattle.command_laws.proofs.CommandPromises.{promises, usage_promises, memory_promises}
use Rattle.tape_cmd.proofs.command.run.Goals as goal

pub returns-in_default-clause-promises : goal.returns-in_default-clause-promises
returns-in_default-clause-promises g c =
    usage_promises g.T.Tape.means g.S.Source.means g.K.Sink.means (map string_bytes c.args.words.now.items)
    record { tape = c.args.unit.now.tape; source = c.args.source.now; sink = c.args.sink.now }
    record {
      nothing = g.met.K.Sink.took_nothing;
      told = g.met.K.Sink.took_told;
      right = g.met.T.Tape.told_right c.args.unit.now.tape;
      before = g.met.T.Tape.left_now c.args.unit.now.tape;
    }
    (g.met.S.Source.keeps_itself c.args.source.now) c.in_default.ensures

pub returns-in-Ok-clause-promises : goal.returns-in-Ok-clause-promises
returns-in-Ok-clause-promises g c =
    let read = c.in-Some.ensures in
    promises g.T.Tape.means g.S.Source.means g.K.Sink.means (map string_bytes c.args.words.now.items) c.in-Some.command
    record { tape = c.args.unit.now.tape; source = c.args.source.now; sink = c.args.sink.now }
    record { tape = c.carry_out.new.unit.tape; source = c.carry_out.new.source; sink = c.carry_out.new.sink } c.in-Ok.status
    record {
      nothing = g.met.K.Sink.took_nothing;
      told = g.met.K.Sink.took_told;
      right = g.met.T.Tape.told_right c.args.unit.now.tape;
      before = g.met.T.Tape.left_now c.args.unit.now.tape;
    }
    read.0 read.1 c.in-Ok.ensures.source c.in-Ok.ensures.kept c.in-Ok.ensures.ends

pub returns-in-Err-clause-promises : goal.returns-in-Err-clause-promises
returns-in-Err-clause-promises g c =
    let read = c.in-Some.ensures in
    let same = c.in-Err.ensures.untouched in
    rw (same.0, same.1, same.2) (memory_promises g.T.Tape.means g.S.Source.means g.K.Sink.means (map string_bytes c.args.words.now.items)
    record { tape = c.args.unit.now.tape; source = c.args.source.now; sink = c.args.sink.now } c.in-Some.command
    record {
      nothing = g.met.K.Sink.took_nothing;
      told = g.met.K.Sink.took_told;
      right = g.met.T.Tape.told_right c.args.unit.now.tape;
      before = g.met.T.Tape.left_now c.args.unit.now.tape;
    }
    (g.met.S.Source.keeps_itself c.args.source.now) read.0 c.in-Err.ensures.want)
