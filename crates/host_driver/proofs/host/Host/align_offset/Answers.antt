use Rattle.std.proofs.Common.{◌≡◌, false, sym, ap, subst, ◌∙◌, Option, rules}
use Rattle.std.specs.Option.{option_map_or}
use Rattle.qic_base.specs.declared.tape.TapeInfo.{TapeInfo}
use Rattle.qic117_commands.specs.Views.{is_format}
use Rattle.qic117_commands.specs.declared.view.Mode.TheVariants.{Format}
use Rattle.drive_spec.specs.Deck.{is_stopped}
use Rattle.drive_spec.specs.Terms.{is_protected}
use Rattle.host_driver.proofs.Taking.{stands_known, primary_of, format_of}
use Rattle.host_driver.proofs.host.Host.align_offset.Goals as goal

pub enter_at_once-requires-clause-taken : goal.enter_at_once-requires-clause-taken
enter_at_once-requires-clause-taken g c = primary_of c.args.unit.now.drive.deck (stands_known c.requires.ready.fits c.requires.stopped)

pub enter_at_once-requires-2-clause-taken : goal.enter_at_once-requires-2-clause-taken
enter_at_once-requires-2-clause-taken g c =
    let skipped = c.skip_to-2.ensures in
    let left = c.enter_at_once.ensures in
    let format : c.args.unit.now.drive.deck.mode ≡ Format = search rules in
    let writable : is_protected c.skip_to-2.new.unit.drive.deck ≡ false =
    subst (λ (o : Option TapeInfo). option_map_or (λ (i : TapeInfo). i.protected) o false ≡ false)
    (sym (skipped.same.cartridge ∙ left.cartridge))
    (c.requires.ready.fits.generates.writable (ap is_format format)) in
    format_of c.skip_to-2.new.unit.drive.deck (stands_known skipped.ready.fits (ap is_stopped skipped.place.motion))
    (skipped.same.mode ∙ left.mode) writable
