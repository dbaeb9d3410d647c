use Rattle.std.proofs.lemmas.Result.{err_from_is_err_and}
use Rattle.cart_image.proofs.Copies.{segment-cells}
use Rattle.cart_image.proofs.Exits.{Looked-err}
use Rattle.cart_image.proofs.upgrading.read_segment.Goals as goal

pub returns-in_err-read_block-clause-looked : goal.returns-in_err-read_block-clause-looked
returns-in_err-read_block-clause-looked g c =
    let p = err_from_is_err_and c.from_residual-in_err-read_block.result c.from_residual-in_err-read_block.ensures.1 in
    Looked-err g.D.Disk.means _ _ _ _ p.0 p.1 c.in_ok-marks.ensures.looked c.in_err-read_block.ensures.looked

pub returns-clause-cells : goal.returns-clause-cells
returns-clause-cells g c =
    segment-cells (g.D.Disk.means.told c.args.disk.now) _ c.args.segments_per_track c.args.segment _ c.in_ok-marks.marks _
    c.in_ok-marks.ensures.looked.told c.plane_place-place.ensures c.requires c.in_ok-marks.ensures.marks c.in_ok-read_block.ensures.bytes
