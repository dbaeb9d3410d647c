use Rattle.std.proofs.Common.{arith}
use Rattle.std.proofs.lemmas.Result.{err_from_is_err_and}
use Rattle.cart_image.proofs.Copies.{segment-failed, segment-planned}
use Rattle.cart_image.proofs.Exits.{told-fact}
use Rattle.cart_image.proofs.upgrading.copy_segment.Goals as goal

pub returns-in_err-marks-clause-planned : goal.returns-in_err-marks-clause-planned
returns-in_err-marks-clause-planned g c =
    let p = err_from_is_err_and c.from_residual.result c.from_residual.ensures.1 in
    segment-failed g.D.Disk.means _ _ c.args.segments_per_track c.args.segment _ p.0 p.1 c.in_err-marks.ensures.looked
    c.in_err-marks.ensures.cause.failed

pub returns-clause-planned : goal.returns-clause-planned
returns-clause-planned g c =
    segment-planned g.D.Disk.means _ _ _ c.args.segments_per_track c.args.segment _ _ c.in_ok-marks.ensures.looked
    c.in_ok-marks.ensures.cause.stood c.write_cells.ensures.ran
    (λ bytes told i less.
    let right = g.met.D.Disk.told_right c.args.disk.now in
    let seen = right.seen bytes told in
    let covers = c.requires.covers in
    told-fact (g.D.Disk.means.told c.args.disk.now) _ bytes told c.in_ok-marks.ensures.cells (omega arith) i less)
