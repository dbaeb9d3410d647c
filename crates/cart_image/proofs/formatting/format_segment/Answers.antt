use Rattle.std.proofs.Common.{arith}
use Rattle.std.proofs.lemmas.Result.{err_from_is_err_and}
use Rattle.cart_image.specs.Layout.{format_segment_steps}
use Rattle.cart_image.proofs.Exits.{Carried-failed, Carried-runs}
use Rattle.cart_image.proofs.Known.{chosen-planned}
use Rattle.cart_image.proofs.formatting.format_segment.Goals as goal

pub returns-in_err-marks-clause-carried : goal.returns-in_err-marks-clause-carried
returns-in_err-marks-clause-carried g c =
    let p = err_from_is_err_and c.from_residual.result c.from_residual.ensures.1 in
    let l = c.in_err-marks.ensures.looked in
    Carried-failed g.D.Disk.means _ l.0 _ _ _ p.0 p.1 l.1 l.2

pub returns-clause-carried : goal.returns-clause-carried
returns-clause-carried g c =
    Carried-runs g.D.Disk.means _ _ _ _ (format_segment_steps c.args.layout c.args.segment c.choose.result.readable c.choose.result.usable
    c.choose.result.unformed) _
    c.in_ok-marks.ensures.looked c.write_formatted.ensures.ran
    (λ bytes told.
    let right = g.met.D.Disk.told_right c.args.disk.now in
    let seen = right.seen bytes told in
    chosen-planned (g.D.Disk.means.told c.args.disk.now) c.args.layout c.args.segment c.in_ok-marks.marks c.choose.result.readable
    c.choose.result.usable c.choose.result.unformed bytes told (omega arith) c.in_ok-marks.ensures.marks (omega arith) (omega arith)
    (omega arith)
    c.choose.ensures.usable c.choose.ensures.readable c.choose.ensures.unformed)
