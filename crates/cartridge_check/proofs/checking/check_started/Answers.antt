use Rattle.std.proofs.Common.{false, ap, subst, sym, ◌∙◌}
use Rattle.drive_spec.specs.Terms.{is_referenced}
use Rattle.host_driver.proofs.Keeping.{agrees_tape}
use Rattle.qic_base.specs.Alone.{around}
use Rattle.cartridge_check.specs.Checking.{CheckEnds}
use Rattle.cartridge_check.proofs.Ending.{bare, is_held}
use Rattle.cartridge_check.proofs.checking.check_started.Goals as goal

pub check_segments-requires-clause-agrees : goal.check_segments-requires-clause-agrees
check_segments-requires-clause-agrees g c =
    agrees_tape g.T.Tape.means c.args.unit.now c.enter_primary.new.unit c.enter_primary.ensures.cartridge c.enter_primary.ensures.tape
    c.requires.agrees

pub returns : goal.returns
returns g c =
    subst (λ tape. CheckEnds g.T.Tape.means g.K.Sink.means (around tape c.args.sink.now)
    (around c.check_segments.new.unit.tape c.check_segments.new.sink) c.check_segments.result) c.enter_primary.ensures.tape
    c.check_segments.ensures

pub returns-then-not-referenced : goal.returns-then-not-referenced
returns-then-not-referenced g c =
    bare g.T.Tape.means g.K.Sink.means (around c.args.unit.now.tape c.args.sink.now) g.met.K.Sink.took_nothing
    (is_held g.T.Tape.means c.args.host.now c.args.unit.now false c.requires.ready.fits c.requires.agrees
    (ap is_referenced c.requires.ready.fits.deck ∙ sym c.if-not-referenced.ensures))
