use Rattle.tape_cmd.proofs.Scripted.{script_done, script_failed, script_unopened}
use Rattle.tape_cmd.proofs.command.script.script.Goals as goal

pub returns-in-Err-clause-ends : goal.returns-in-Err-clause-ends
returns-in-Err-clause-ends g c =
    script_unopened g.T.Tape.means g.S.Source.means g.K.Sink.means c.args.unit.now.tape c.args.source.now c.args.sink.now
    c.open.new.unit c.in-Err.status g.met.K.Sink.took_nothing c.in-Err.ensures

pub returns-in-Ok-run_script-clause-ends : goal.returns-in-Ok-run_script-clause-ends
returns-in-Ok-run_script-clause-ends g c =
    script_done g.T.Tape.means g.S.Source.means g.K.Sink.means c.args.unit.now.tape c.args.source.now c.args.sink.now
    c.open.new.unit c.in-Ok.store c.in-Ok.ensures c.run_script.new.unit.tape c.run_script.new.source c.run_script.new.sink
    g.met.K.Sink.took_both g.met.K.Sink.took_nothing c.in-Ok-run_script.ensures.ends

pub returns-clause-ends : goal.returns-clause-ends
returns-clause-ends g c =
    script_failed g.T.Tape.means g.S.Source.means g.K.Sink.means c.args.unit.now.tape c.args.source.now c.args.sink.now
    c.open.new.unit c.in-Ok.store c.in-Ok.ensures c.run_script.new.unit.tape c.run_script.new.source c.run_script.new.sink
    g.met.K.Sink.took_both g.met.K.Sink.took_nothing c.in-Err-run_script.status c.in-Err-run_script.ensures.tells
    c.in-Err-run_script.ensures.ends
