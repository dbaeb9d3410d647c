use Rattle.std.proofs.Common.{Err, ap, subst}
use Rattle.command_spec.specs.declared.depth.Depth.TheVariants.{Shallow}
use Rattle.qic_base.specs.Alone.{around}
use Rattle.volume_store.specs.Scrubbing.{MendEnds}
use Rattle.volume_store.proofs.Opened.{unlocked_where}
use Rattle.qic_base.specs.declared.store_fault.StoreFault.{StoreFault}
use Rattle.host_commands.proofs.Scrubbed.{refused_form, scrub_failed, scrub_form, scrubbed}
use Rattle.command_spec.specs.declared.words.Words.TheVariants as words
use Rattle.host_commands.proofs.scrub.scrub.Goals as goal

pub returns-in-Err : goal.returns-in-Err
returns-in-Err g c =
    refused_form words.Scrub Shallow scrub_form g.T.Tape.means g.K.Sink.means c.args.unit.now.tape c.open_writable.new.unit c.args.sink.now
    c.in-Err.status g.met.K.Sink.took_nothing c.in-Err.ensures

pub returns-in-Ok-scrub : goal.returns-in-Ok-scrub
returns-in-Ok-scrub g c =
    scrubbed words.Scrub Shallow scrub_form g.T.Tape.means g.K.Sink.means c.args.unit.now.tape c.open_writable.new.unit c.in-Ok.store
    c.in-Ok.ensures.1
    c.scrub.new.unit.tape c.args.sink.now c.scrub.new.sink c.in-Ok-scrub.field-0 g.met.K.Sink.took_both g.met.K.Sink.took_nothing
    (unlocked_where c.open_writable.new.unit _ c.in-Ok-scrub.ensures.protected.1 (λ is. cc)) c.in-Ok-scrub.ensures.ends

pub returns : goal.returns
returns g c =
    let mark = c.in-Err-scrub.ensures.protected in
    rw c.store_status.ensures (scrub_failed words.Scrub Shallow scrub_form g.T.Tape.means g.K.Sink.means c.args.unit.now.tape
    c.open_writable.new.unit c.in-Ok.store c.in-Ok.ensures.1
    c.scrub.new.unit.tape c.args.sink.now c.scrub.new.sink c.in-Err-scrub.fault g.met.K.Sink.took_both g.met.K.Sink.took_nothing
    c.in-Ok.ensures.0
    ((λ same. mark.0 (ap Err same)), (λ locked. let is = mark.1 locked in cc)) c.in-Err-scrub.ensures.ends)

pub store_status-requires : goal.store_status-requires
store_status-requires g c = λ promised read is.
    subst (λ (f : StoreFault). MendEnds g.T.Tape.means g.K.Sink.means Shallow c.in-Ok.store
    (around c.open_writable.new.unit.tape c.args.sink.now) (around c.scrub.new.unit.tape c.scrub.new.sink) (Err f)) is
    c.in-Err-scrub.ensures.ends
