use Rattle.std.proofs.Common.{◌≡◌, Err, true, false, ap, Ok}
use Rattle.drive_spec.specs.Terms.{is_protected}
use Rattle.volume_script.proofs.Quiet.{unmarked, scrub_failed, scrub_done, tape_replied}
use Rattle.volume_store.proofs.Fitting.{told_mark}
use Rattle.qic_base.specs.declared.store_fault.StoreFault.TheVariants as fault
use Rattle.volume_script.proofs.scrub.scrub.Goals as goal

pub returns-in-Ok-clause-ends : goal.returns-in-Ok-clause-ends
returns-in-Ok-clause-ends g c =
    scrub_done
    g.T.Tape.means g.S.Source.means g.K.Sink.means c.args.store.now c.scrub.new.self c.args.unit.now.tape c.scrub.new.unit.tape
    c.args.source.now c.args.sink.now c.scrub.new.sink c.in-Ok.ensures.store.entries c.in-Ok.field-0
    (told_mark g.T.Tape.means c.args.store.now c.args.unit.now c.requires.fits false
    (unmarked (is_protected c.args.unit.now.drive.deck) (Ok c.in-Ok.field-0 ≡ Err fault.Protected) c.in-Ok.ensures.protected
    (λ e. cc))) c.in-Ok.ensures.ends

pub returns-in-Err-clause-ends : goal.returns-in-Err-clause-ends
returns-in-Err-clause-ends g c =
    scrub_failed
    g.T.Tape.means g.S.Source.means g.K.Sink.means c.args.store.now c.scrub.new.self c.args.unit.now.tape c.scrub.new.unit.tape
    c.args.source.now c.args.sink.now c.scrub.new.sink c.reply_refused.new.sink c.in-Err.ensures.store.entries g.met.K.Sink.took_both
    g.met.K.Sink.took_nothing c.in-Err.fault c.reply_refused.result
    (λ is. told_mark g.T.Tape.means c.args.store.now c.args.unit.now c.requires.fits true (c.in-Err.ensures.protected.0 (ap Err is)))
    (λ other. told_mark g.T.Tape.means c.args.store.now c.args.unit.now c.requires.fits false
    (unmarked (is_protected c.args.unit.now.drive.deck) (Err c.in-Err.fault ≡ Err fault.Protected) c.in-Err.ensures.protected
    (λ e. other (cc)))) c.in-Err.ensures.ends c.reply_refused.ensures

pub returns-in-Err-clause-fits : goal.returns-in-Err-clause-fits
returns-in-Err-clause-fits g c = λ other. c.in-Err.ensures.fits (λ e. other
    (tape_replied g.K.Sink.means c.scrub.new.sink c.reply_refused.new.sink c.in-Err.fault c.reply_refused.result c.reply_refused.ensures
    (cc)))
