use Rattle.std.proofs.Common.{◌≡◌, false, None, refl, sym, ap, subst, ◌∙◌}
use Rattle.std.proofs.lemmas.Bool.{false≢true}
use Rattle.qic117_commands.specs.Views.{is_format}
use Rattle.qic117_commands.specs.declared.command.Command.TheVariants.{EnterPrimary}
use Rattle.qic117_commands.specs.declared.view.Mode.TheVariants.{Format}
use Rattle.qic117_commands.proofs.Rows.{sameb-format}
use Rattle.drive_spec.specs.declared.deck.Deck.{Deck}
use Rattle.drive_spec.specs.Terms.{refusal_of, is_protected}
use Rattle.drive_spec.specs.Effects.{accepted}
use Rattle.host_driver.specs.Commands.{entry_of}
use Rattle.host_driver.proofs.Taking.{stands_known, primary_of, entry_taken}
use Rattle.host_driver.proofs.host.Host.enter.Goals as goal
use Rattle.host_driver.proofs.host.Host.enter.Goals.{else-eq-via-then-eq+else-protected, else-eq-via-else-eq}

pub enter_at_once-requires-2-clause-taken : goal.enter_at_once-requires-2-clause-taken
enter_at_once-requires-2-clause-taken g c = primary_of c.args.unit.now.drive.deck (stands_known c.requires.ready.fits c.requires.stopped)

pub enter_at_once-requires-3-clause-taken : goal.enter_at_once-requires-3-clause-taken
enter_at_once-requires-3-clause-taken g c =
    let old : Deck = c.args.unit.now.drive.deck in
    let ready = stands_known c.requires.ready.fits c.requires.stopped in
    let writable : c.args.mode ≡ Format → is_protected old ≡ false =
    λ format. elim c.else-eq.branch [
      | else-eq-via-then-eq+else-protected w ↦ ap is_protected c.requires.ready.fits.deck ∙ sym w.protected.ensures ∙ w.if-protected.false
      | else-eq-via-else-eq w ↦ absurd (false≢true (sym w.if-eq.false ∙ c.eq.ensures ∙ sameb-format c.args.mode ∙ ap is_format format))
    ] in
    subst (λ (d : Deck). refusal_of d (entry_of c.args.mode) ≡ None) (sym c.enter_at_once-2.ensures.deck)
    (entry_taken c.args.mode (accepted EnterPrimary old) (record { present = ready.present; known = ready.known; stopped = ready.stopped })
    refl writable c.requires.referenced)

pub returns-clause-place : goal.returns-clause-place
returns-clause-place g c =
    let between = c.enter_at_once-2.ensures.place in
    let there = c.enter_at_once-3.ensures.place in
    record { motion = there.motion; on_track = there.on_track ∙ between.on_track; at_offset = there.at_offset ∙ between.at_offset }
