use Rattle.std.proofs.Common.{◌≡◌, sym, ap, subst, ◌∙◌}
use Rattle.drive_spec.specs.declared.deck.Deck.{Deck}
use Rattle.drive_states.specs.Unreferenced.{unreferenced, without_reference}
use Rattle.host_driver.specs.declared.host.Host.{Host}
use Rattle.host_driver.specs.Fits.{Fits}
use Rattle.host_driver.proofs.Fitting.{fits_after, fits_without, by_err, by_ok, takes_value}
use Rattle.drive_spec.specs.Row.{pulsed_row}
use Rattle.host_driver.proofs.host.Host.send.Goals as goal

pub follow-requires-clause-value : goal.follow-requires-clause-value
follow-requires-clause-value g c = takes_value c.args.unit.now.drive c.args.self.now.awaited c.args.pulses c.requires.fits.awaited
    c.requires.taken

pub returns-then-is_err-clause-fits : goal.returns-then-is_err-clause-fits
returns-then-is_err-clause-fits g c =
    let failed = by_err c.send_train-sent.result
    (c.send_train-sent.new.unit.drive ≡ without_reference (pulsed_row c.args.unit.now.drive c.args.pulses))
    (sym c.is_err.ensures.value ∙ c.if-is_err.true) c.send_train-sent.ensures.failed in
    subst (λ (h : Host). Fits g.T.Tape.means h c.send_train-sent.new.unit)
    (ap (λ (h : Host). record h { deck = unreferenced h.deck }) (sym c.follow.ensures)
    ∙ ap (λ (d : Deck). record c.follow.new.self { deck = d }) (sym c.unreferenced-self.ensures))
    (fits_without {m = g.T.Tape.means} {h = c.args.self.now} {u = c.args.unit.now} {v = c.send_train-sent.new.unit} c.args.pulses
    c.requires.fits c.requires.taken failed c.send_train-sent.ensures.sound)

pub returns-clause-fits : goal.returns-clause-fits
returns-clause-fits g c =
    let done = by_ok c.send_train-sent.result (c.send_train-sent.new.unit.drive ≡ pulsed_row c.args.unit.now.drive c.args.pulses)
    (sym c.is_err.ensures.value ∙ c.if-is_err.false) c.send_train-sent.ensures.row in
    subst (λ (h : Host). Fits g.T.Tape.means h c.send_train-sent.new.unit) (sym c.follow.ensures)
    (fits_after {m = g.T.Tape.means} {h = c.args.self.now} {u = c.args.unit.now} {v = c.send_train-sent.new.unit} c.args.pulses
    c.requires.fits c.requires.taken done c.send_train-sent.ensures.sound)
