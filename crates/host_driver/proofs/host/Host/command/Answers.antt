use Rattle.std.proofs.Common.{ℕ, ap, sym, subst, ◌∙◌}
use Rattle.drive_spec.specs.Record.{Record}
use Rattle.host_driver.specs.Train.{TakesTrain}
use Rattle.host_driver.proofs.Sending.{commanded, steps-plain, takes-plain}
use Rattle.drive_spec.specs.Row.{pulsed_row}
use Rattle.drive_spec.specs.Steps.{train_changes}
use Rattle.host_driver.proofs.host.Host.command.Goals as goal

pub tell-requires-clause-taken : goal.tell-requires-clause-taken
tell-requires-clause-taken g c =
    subst (λ (pulses : ℕ). TakesTrain c.args.unit.now.drive pulses) (sym c.number.ensures)
    (takes-plain c.args.command c.args.unit.now.drive c.requires.plain c.requires.ready.rest.still c.requires.ready.rest.idle
    c.requires.taken c.requires.ready.fits.no_error c.requires.ready.fits.generates)

pub tell-requires-clause-reads : goal.tell-requires-clause-reads
tell-requires-clause-reads g c =
    ap (train_changes c.args.unit.now.drive) c.number.ensures ∙ steps-plain c.args.command c.args.unit.now.drive c.requires.plain

pub returns-clause-deck : goal.returns-clause-deck
returns-clause-deck g c =
    ap (λ (r : Record). r.deck) (c.tell.ensures.row ∙ ap (pulsed_row c.args.unit.now.drive) c.number.ensures
    ∙ commanded c.args.command c.args.unit.now.drive c.requires.plain c.requires.ready.rest.still c.requires.ready.rest.idle
    c.requires.taken)

pub returns-clause-under_way : goal.returns-clause-under_way
returns-clause-under_way g c =
    ap (λ (r : Record). r.under_way) (c.tell.ensures.row ∙ ap (pulsed_row c.args.unit.now.drive) c.number.ensures
    ∙ commanded c.args.command c.args.unit.now.drive c.requires.plain c.requires.ready.rest.still c.requires.ready.rest.idle
    c.requires.taken)
