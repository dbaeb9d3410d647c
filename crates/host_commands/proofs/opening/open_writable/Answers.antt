use Rattle.std.proofs.Common.{◌≡◌, false, sym, ap, ◌∙◌}
use Rattle.std.specs.Option.{option_map_or}
use Rattle.std.proofs.lemmas.Result.{err_from_is_err_and}
use Rattle.drive_spec.specs.Terms.{is_protected}
use Rattle.volume_store.proofs.Started.{there_of, present}
use Rattle.volume_store.proofs.Mounted.{open_shown, open_failed as mount_failed}
use Rattle.host_commands.proofs.Mounted.{open_failed, unlocked_known, writable_unstarted, writable_failed}
use Rattle.host_commands.proofs.opening.open_writable.Goals as goal

pub returns-in_err-host : goal.returns-in_err-host
returns-in_err-host g c =
    let p = err_from_is_err_and c.from_residual.result c.from_residual.ensures.1 in
    rw (p.1, p.2) (writable_unstarted g.T.Tape.means c.args.unit.now.tape c.start.new.unit _ c.in_err-host.ensures)

pub returns-in-Ok : goal.returns-in-Ok
returns-in-Ok g c =
    let there = there_of c.in_ok-host.ensures in
    let free : there.info.protected ≡ false =
    sym (ap (λ i. option_map_or (λ c. c.protected) i false) there.is) ∙ ap is_protected c.in_ok-host.ensures.ready.fits.deck
    ∙ sym c.protected.ensures ∙ c.if-protected.false in (
      unlocked_known g.T.Tape.means c.args.unit.now.tape c.start.new.unit.tape there.info (present c.in_ok-host.ensures) free,
      open_shown g.T.Tape.means c.args.unit.now.tape c.start.new.unit.tape c.mount.new.unit there.info c.in-Ok.store
          (present c.in_ok-host.ensures) c.in-Ok.ensures.did c.in-Ok.ensures.fits,
    )

pub returns-in-Err : goal.returns-in-Err
returns-in-Err g c =
    let there = there_of c.in_ok-host.ensures in
    let free : there.info.protected ≡ false =
    sym (ap (λ i. option_map_or (λ c. c.protected) i false) there.is) ∙ ap is_protected c.in_ok-host.ensures.ready.fits.deck
    ∙ sym c.protected.ensures ∙ c.if-protected.false in
    rw c.store_status.ensures (writable_failed g.T.Tape.means c.args.unit.now.tape c.mount.new.unit _
    (unlocked_known g.T.Tape.means c.args.unit.now.tape c.start.new.unit.tape there.info (present c.in_ok-host.ensures) free)
    (open_failed g.T.Tape.means c.args.unit.now.tape c.mount.new.unit c.in-Err.fault
    (mount_failed _ g.T.Tape.means c.args.unit.now.tape c.start.new.unit.tape c.mount.new.unit there.info c.in-Err.fault
    (present c.in_ok-host.ensures) c.in-Err.ensures.did c.in-Err.ensures.kind c.in-Err.ensures.cause)))
