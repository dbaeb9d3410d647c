use Rattle.volume_script.proofs.Appended.{by_fault, by_ok, tape_refused}
use Rattle.volume_script.proofs.append.append.Goals as goal

pub returns-in-Ok-clause-ends : goal.returns-in-Ok-clause-ends
returns-in-Ok-clause-ends g c =
    rw c.replied.ensures
    (by_ok
    g.T.Tape.means g.S.Source.means g.K.Sink.means c.args.store.now c.take_promised-answer.new.store c.args.name.now c.args.promised
    c.args.date g.met.K.Sink.took_both g.met.K.Sink.took_nothing
    c.args.unit.now c.take_promised-answer.new.unit.tape c.args.source.now c.take_promised-answer.new.source c.args.sink.now
    c.take_promised-answer.result.left c.take_promised-answer.result.answer
    c.take_promised-answer.ensures.ran c.requires.fits c.take_promised-answer.ensures.mark c.take_promised-answer.ensures.list
    c.write_text.new.sink c.in-Ok.appended c.in-Ok.is c.write_text.result
    (rw (c.bytes.ensures, c.appended_text.ensures) at c.write_text.ensures))

pub returns-in-Err-clause-ends : goal.returns-in-Err-clause-ends
returns-in-Err-clause-ends g c =
    by_fault
    g.T.Tape.means g.S.Source.means g.K.Sink.means c.args.store.now c.take_promised-answer.new.store c.args.name.now c.args.promised
    c.args.date g.met.K.Sink.took_both g.met.K.Sink.took_nothing
    c.args.unit.now c.take_promised-answer.new.unit.tape c.args.source.now c.take_promised-answer.new.source c.args.sink.now
    c.take_promised-answer.result.left c.take_promised-answer.result.answer
    c.take_promised-answer.ensures.ran c.requires.fits c.take_promised-answer.ensures.mark c.take_promised-answer.ensures.list
    c.in-Err.fault c.in-Err.is c.refuse.new.source c.refuse.new.sink c.refuse.result c.refuse.ensures.refused

pub returns-in-Err-clause-fits : goal.returns-in-Err-clause-fits
returns-in-Err-clause-fits g c = λ other. c.take_promised-answer.ensures.fits (λ e. other
    (tape_refused g.S.Source.means g.K.Sink.means c.take_promised-answer.new.source c.refuse.new.source c.args.sink.now c.refuse.new.sink
    c.args.promised c.take_promised-answer.result.left c.in-Err.fault c.refuse.result c.refuse.ensures.refused
    (let is = c.in-Err.is in cc)))
