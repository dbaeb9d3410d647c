use Rattle.volume_script.proofs.Quiet.{restored_ends, restore_failed, tape_replied}
use Rattle.volume_script.proofs.restore.restore.Goals as goal

pub returns-in-Ok-clause-ends : goal.returns-in-Ok-clause-ends
returns-in-Ok-clause-ends g c =
    rw c.replied.ensures
    (restored_ends
    g.T.Tape.means g.S.Source.means g.K.Sink.means c.args.store.now c.restore.new.self c.args.number c.args.unit.now.tape
    c.restore.new.unit.tape c.args.source.now c.args.sink.now c.restore.new.sink
    c.write_restored.new.sink g.met.K.Sink.took_both g.met.K.Sink.took_nothing c.in-Ok.ensures.store.entries c.in-Ok.bytes
    c.write_restored.result
    c.in-Ok.ensures.ends c.write_restored.ensures)

pub returns-in-Err-clause-ends : goal.returns-in-Err-clause-ends
returns-in-Err-clause-ends g c =
    restore_failed
    g.T.Tape.means g.S.Source.means g.K.Sink.means c.args.store.now c.restore.new.self c.args.number c.args.unit.now.tape
    c.restore.new.unit.tape c.args.source.now c.args.sink.now c.restore.new.sink
    c.reply_refused.new.sink g.met.K.Sink.took_both g.met.K.Sink.took_nothing c.in-Err.ensures.store.entries c.in-Err.fault
    c.reply_refused.result c.in-Err.ensures.ends c.reply_refused.ensures

pub returns-in-Err-clause-fits : goal.returns-in-Err-clause-fits
returns-in-Err-clause-fits g c = λ other. c.in-Err.ensures.fits (λ e. other
    (tape_replied g.K.Sink.means c.restore.new.sink c.reply_refused.new.sink c.in-Err.fault c.reply_refused.result c.reply_refused.ensures
    (cc)))
