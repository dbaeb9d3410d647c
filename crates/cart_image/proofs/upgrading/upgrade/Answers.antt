use Rattle.std.proofs.Common.{◌∙◌, ap, arith, refl}
use Rattle.std.proofs.lemmas.Result.{err_from_is_err_and}
use Rattle.qic_base.specs.Field.{little_endian_bytes}
use Rattle.cart_image.specs.Layout.{resize}
use Rattle.cart_image.proofs.Copies.{length-failed, copy-failed, sync-failed, base-failed, upgrade-ran}
use Rattle.cart_image.proofs.Loops.{halted-is, ran-is}
use Rattle.cart_image.proofs.Runs.{Halted-settled}
use Rattle.cart_image.proofs.upgrading.upgrade.Goals as goal

pub returns-in_err-put_len-clause-planned : goal.returns-in_err-put_len-clause-planned
returns-in_err-put_len-clause-planned g c =
    let p = err_from_is_err_and c.from_residual.result c.from_residual.ensures.1 in
    length-failed g.D.Disk.means _ c.args.segments_per_track (λ bytes told. let right = g.met.D.Disk.told_right c.args.disk.now in
    let seen = right.seen bytes told in let covers = c.requires in omega arith) _ _ p.0 p.1
    (halted-is g.D.Disk.means _ _ (resize c.upgraded_len.result) _ (ap resize c.upgraded_len.ensures) c.in_err-put_len.ensures.ran)

pub returns-in_err-copy_all-clause-planned : goal.returns-in_err-copy_all-clause-planned
returns-in_err-copy_all-clause-planned g c =
    let p = err_from_is_err_and c.from_residual-in_err-copy_all.result c.from_residual-in_err-copy_all.ensures.1 in
    copy-failed g.D.Disk.means _ c.args.segments_per_track (λ bytes told. let right = g.met.D.Disk.told_right c.args.disk.now in
    let seen = right.seen bytes told in let covers = c.requires in omega arith) _
    (ran-is g.D.Disk.means _ _ (resize c.upgraded_len.result) _ (ap resize c.upgraded_len.ensures) c.in_ok-put_len.ensures.ran) _ _ _ _
    p.0 refl p.1 c.in_err-copy_all.ensures.planned

pub returns-in_err-copy_all-clause-settled : goal.returns-in_err-copy_all-clause-settled
returns-in_err-copy_all-clause-settled g c = let p = c.in_err-copy_all.ensures.planned in Halted-settled g.D.Disk.means _ _ p.steps p.runs

pub returns-in_err-sync-clause-planned : goal.returns-in_err-sync-clause-planned
returns-in_err-sync-clause-planned g c =
    let p = err_from_is_err_and c.from_residual-in_err-sync.result c.from_residual-in_err-sync.ensures.1 in
    sync-failed g.D.Disk.means _ c.args.segments_per_track (λ bytes told. let right = g.met.D.Disk.told_right c.args.disk.now in
    let seen = right.seen bytes told in let covers = c.requires in omega arith) _
    (ran-is g.D.Disk.means _ _ (resize c.upgraded_len.result) _ (ap resize c.upgraded_len.ensures) c.in_ok-put_len.ensures.ran) _ _
    c.in_ok-copy_all.ensures.planned _ _ p.0 p.1 c.in_err-sync.ensures.did

pub returns-in_err-put-clause-planned : goal.returns-in_err-put-clause-planned
returns-in_err-put-clause-planned g c =
    let p = err_from_is_err_and c.from_residual-in_err-put.result c.from_residual-in_err-put.ensures.1 in
    base-failed g.D.Disk.means _ c.args.segments_per_track (λ bytes told. let right = g.met.D.Disk.told_right c.args.disk.now in
    let seen = right.seen bytes told in let covers = c.requires in omega arith) _
    (ran-is g.D.Disk.means _ _ (resize c.upgraded_len.result) _ (ap resize c.upgraded_len.ensures) c.in_ok-put_len.ensures.ran) _ _
    c.in_ok-copy_all.ensures.planned _ _ _ p.0 c.base_bytes.result p.1 c.in_ok-sync.ensures.did
    (c.base_bytes.ensures ∙ ap (little_endian_bytes 8) c.image_len.ensures) c.in_err-put.ensures.ran

pub returns-clause-planned : goal.returns-clause-planned
returns-clause-planned g c =
    upgrade-ran g.D.Disk.means _ c.args.segments_per_track (λ bytes told. let right = g.met.D.Disk.told_right c.args.disk.now in
    let seen = right.seen bytes told in let covers = c.requires in omega arith) _
    (ran-is g.D.Disk.means _ _ (resize c.upgraded_len.result) _ (ap resize c.upgraded_len.ensures) c.in_ok-put_len.ensures.ran) _ _
    c.in_ok-copy_all.ensures.planned _ _ _ _ c.base_bytes.result c.in_ok-sync.ensures.did
    (c.base_bytes.ensures ∙ ap (little_endian_bytes 8) c.image_len.ensures) c.in_ok-put.ensures.ran c.put-2.ensures.ran
