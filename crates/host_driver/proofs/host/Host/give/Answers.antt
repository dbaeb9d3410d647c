use Rattle.std.proofs.Common.{ℕ, ◌+◌, ap, sym, subst, ◌∙◌}
use Rattle.host_driver.specs.Fits.{parameter_of}
use Rattle.host_driver.specs.Train.{TakesTrain}
use Rattle.host_driver.proofs.Sending.{gives, given_as}
use Rattle.drive_spec.specs.Row.{pulsed_row}
use Rattle.drive_spec.specs.Steps.{train_changes}
use Rattle.host_driver.proofs.host.Host.give.Goals as goal

pub tell-requires-clause-taken : goal.tell-requires-clause-taken
tell-requires-clause-taken g c =
    subst (λ (n : ℕ). TakesTrain c.args.unit.now.drive (n + c.args.value)) (sym c.number.ensures)
    (gives c.args.unit.now.drive c.args.value c.requires.still c.requires.fits.no_error c.requires.fits.generates c.requires.awaited).takes

pub tell-requires-clause-reads : goal.tell-requires-clause-reads
tell-requires-clause-reads g c =
    let gave = gives c.args.unit.now.drive c.args.value c.requires.still c.requires.fits.no_error c.requires.fits.generates
    c.requires.awaited in
    ap (λ (n : ℕ). train_changes c.args.unit.now.drive (n + c.args.value)) c.number.ensures ∙ gave.steps

pub returns-clause-given : goal.returns-clause-given
returns-clause-given g c =
    let gave = gives c.args.unit.now.drive c.args.value c.requires.still c.requires.fits.no_error c.requires.fits.generates
    c.requires.awaited in
    given_as c.args.unit.now.drive c.tell.new.unit.drive c.args.value
    (c.tell.ensures.row ∙ ap (λ (n : ℕ). pulsed_row c.args.unit.now.drive (n + c.args.value)) c.number.ensures)
    (parameter_of c.args.unit.now.drive.under_way) gave.given
