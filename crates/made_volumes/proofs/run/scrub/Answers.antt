use Rattle.std.proofs.Common.{◌≡◌, Err, ap, arith}
use Rattle.std.proofs.lemmas.Grind.{common_steps}
use Rattle.drive_spec.specs.Terms.{is_protected}
use Rattle.qic_base.specs.declared.store_fault.StoreFault.{StoreFault}
use Rattle.made_volumes.proofs.Appends.{not_marked}
use Rattle.made_volumes.proofs.Others.{scrub_done, scrub_so, scrub_never_full}
use Rattle.made_volumes.proofs.run.scrub.Goals as goal

pub returns-clause-ends : goal.returns-clause-ends
returns-clause-ends g c = λ seed.
    scrub_done g.T.Tape.means g.K.Sink.means seed c.args.store.now c.args.unit.now c.requires.fits c.scrub.new.unit.tape c.args.sink.now
    c.scrub.new.sink c.in_ok-scrub.field-0
    (not_marked _ (is_protected c.args.unit.now.drive.deck) c.in_ok-scrub.ensures.protected.1 (λ is. cc)) c.in_ok-scrub.ensures.ends

pub returns-in_err-scrub-clause-ends : goal.returns-in_err-scrub-clause-ends
returns-in_err-scrub-clause-ends g c = λ seed.
    let fault : StoreFault = c.in_err-scrub.field-0.0 in
    let is : c.from_residual.result ≡ Err fault = grind (arith, common_steps, c.from_residual.ensures) in
    let mark = c.in_err-scrub.ensures.protected in
    rw is (scrub_so g.T.Tape.means g.K.Sink.means seed c.args.store.now c.args.unit.now c.requires.fits
    c.scrub.new.unit.tape c.args.sink.now c.scrub.new.sink g.met.K.Sink.took_nothing
    fault ((λ same. mark.0 (ap Err same)), (λ locked. let is = mark.1 locked in cc)) c.in_err-scrub.ensures.ends)

pub returns-in_err-scrub-clause-room : goal.returns-in_err-scrub-clause-room
returns-in_err-scrub-clause-room g c =
    let fault : StoreFault = c.in_err-scrub.field-0.0 in
    let is : c.from_residual.result ≡ Err fault = grind (arith, common_steps, c.from_residual.ensures) in
    rw is (scrub_never_full g.T.Tape.means g.K.Sink.means 0 c.args.store.now c.args.unit.now c.requires.fits
    c.scrub.new.unit.tape c.args.sink.now c.scrub.new.sink fault c.in_err-scrub.ensures.ends)
