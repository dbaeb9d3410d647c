use Rattle.std.proofs.Common.{◌≤◌, ◌++◌, length, arith, length-append}
use Rattle.std.proofs.lemmas.Result.{err_from_is_err_and}
use Rattle.flat_dump.specs.Importing.{image_with, lost_cells}
use Rattle.flat_dump.proofs.Passing.{ends_err, none_or, sign_ends}
use Rattle.flat_dump.proofs.importing.finish.Goals as goal

pub returns-in_err-append_lost : goal.returns-in_err-append_lost
returns-in_err-append_lost g c = λ first file more long order u.
    let m = g.D.Disk.means in
    let p = err_from_is_err_and c.from_residual.result c.from_residual.ensures.1 in
    ends_err m first c.append_lost.new.disk (image_with c.args.segments_per_track (file ++ lost_cells more)) c.from_residual.result p.0 p.1
    (none_or m first c.append_lost.new.disk (image_with c.args.segments_per_track (file ++ lost_cells more))
    (c.in_err-append_lost.ensures.goes first file more long (omega arith) u))

pub returns : goal.returns
returns g c = λ first file more long order u.
    let m = g.D.Disk.means in
    let whole : 64 ≤ length (file ++ lost_cells more) = omega (arith, length-append file (lost_cells more), long) in
    sign_ends m g.met.D.Disk.left_now g.met.D.Disk.told_right c.args.segments_per_track first c.append_lost.new.disk c.sign.new.disk
    (file ++ lost_cells more) c.sign.result whole
    (c.in_ok-append_lost.ensures.goes first file more long (omega arith) u) c.sign.ensures.ran
