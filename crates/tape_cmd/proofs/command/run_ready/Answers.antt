use Rattle.command_laws.proofs.CommandPromises.{promises}
use Rattle.tape_cmd.proofs.command.run_ready.Goals as goal

pub returns-clause-promises : goal.returns-clause-promises
returns-clause-promises g c spelled spells =
    promises g.T.Tape.means g.S.Source.means g.K.Sink.means spelled c.args.words.now
    record { tape = c.args.unit.now.tape; source = c.args.source.now; sink = c.args.sink.now }
    record { tape = c.carry_out.new.unit.tape; source = c.carry_out.new.source; sink = c.carry_out.new.sink } c.in-Ok.status
    record {
      nothing = g.met.K.Sink.took_nothing;
      told = g.met.K.Sink.took_told;
      right = g.met.T.Tape.told_right c.args.unit.now.tape;
      before = g.met.T.Tape.left_now c.args.unit.now.tape;
    }
    spells c.requires.values c.in-Ok.ensures.source c.in-Ok.ensures.kept c.in-Ok.ensures.ends
