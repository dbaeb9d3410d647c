use Rattle.std.proofs.Common.{None, Err, ap, subst}
use Rattle.qic_base.specs.Alone.{reading}
use Rattle.qic_base.specs.SinkCalls.{Writes}
use Rattle.qic_base.specs.declared.store_fault.StoreFault.{StoreFault}
use Rattle.volume_store.specs.Appending.{AppendEnds}
use Rattle.command_spec.specs.Lines.{appended_line}
use Rattle.volume_store.proofs.Opened.{unlocked_where}
use Rattle.host_commands.proofs.Added.{append_unopened, append_replied, append_failed, never_short_told}
use Rattle.host_commands.proofs.append.append.Goals as goal

pub returns-in-Err-clause-ends : goal.returns-in-Err-clause-ends
returns-in-Err-clause-ends g c =
    append_unopened g.T.Tape.means g.S.Source.means g.K.Sink.means c.args.name.now c.args.date c.args.unit.now.tape c.args.source.now
    c.args.sink.now
    c.open_writable.new.unit c.in-Err.status g.met.K.Sink.took_nothing c.in-Err.ensures

pub returns-in-Ok-append-clause-ends : goal.returns-in-Ok-append-clause-ends
returns-in-Ok-append-clause-ends g c =
    let written : Writes g.K.Sink.means c.args.sink.now c.write_text.new.sink
    (appended_line c.in-Ok-append.appended.number c.in-Ok-append.appended.bytes c.in-Ok-append.appended.start c.in-Ok-append.appended.end)
    c.write_text.result =
    rw (c.bytes.ensures, c.appended_text.ensures) at c.write_text.ensures in
    rw c.printed.ensures (append_replied g.T.Tape.means g.S.Source.means g.K.Sink.means c.args.name.now c.args.date c.args.unit.now.tape
    c.args.source.now c.args.sink.now
    c.open_writable.new.unit c.in-Ok.store c.in-Ok.ensures.1 c.append.new.unit.tape c.append.new.source c.append.new.self
    c.in-Ok-append.appended
    (unlocked_where c.open_writable.new.unit _ c.in-Ok-append.ensures.protected.1 (λ is. cc)) c.in-Ok-append.ensures.ends
    c.write_text.new.sink c.write_text.result written)

pub returns-clause-ends : goal.returns-clause-ends
returns-clause-ends g c =
    let mark = c.in-Err-append.ensures.protected in
    rw c.store_status.ensures (append_failed g.T.Tape.means g.S.Source.means g.K.Sink.means c.args.name.now c.args.date c.args.unit.now.tape
    c.args.source.now c.args.sink.now
    c.open_writable.new.unit c.in-Ok.store c.in-Ok.ensures.1 c.append.new.unit.tape c.append.new.source c.append.new.self
    c.in-Err-append.fault
    g.met.K.Sink.took_nothing g.met.K.Sink.took_both c.in-Ok.ensures.0
    ((λ same. mark.0 (ap Err same)), (λ locked. let is = mark.1 locked in cc)) c.in-Err-append.ensures.ends)

pub store_status-requires : goal.store_status-requires
store_status-requires g c = λ promised read is.
    never_short_told g.T.Tape.means g.S.Source.means c.open_writable.new.unit.tape c.args.source.now c.append.new.unit.tape
    c.append.new.source c.in-Ok.store c.append.new.self c.args.name.now c.args.date promised read
    (subst (λ (f : StoreFault). AppendEnds g.T.Tape.means g.S.Source.means (reading c.open_writable.new.unit.tape c.args.source.now)
    (reading c.append.new.unit.tape c.append.new.source)
    c.in-Ok.store c.append.new.self c.args.name.now c.args.date None (Err f)) is c.in-Err-append.ensures.ends)
