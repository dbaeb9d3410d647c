use Rattle.std.proofs.lemmas.Result.{err_from_is_err_and}
use Rattle.cart_image.proofs.Exits.{Runs-err}
use Rattle.cart_image.proofs.Loops.{run-failed, run-part, run-written}
use Rattle.cart_image.proofs.filling.write_run.Goals as goal

pub returns-in_err-write_at-clause-ran : goal.returns-in_err-write_at-clause-ran
returns-in_err-write_at-clause-ran g c =
    let p = err_from_is_err_and c.from_residual.result c.from_residual.ensures.1 in
    Runs-err g.D.Disk.means _ _ _ c.from_residual.result p.0 p.1
    (run-failed g.D.Disk.means _ _ c.args.layout c.args.part c.args.values.now c.args.first c.args.at c.args.count _ _
    c.if-count-gt0.true c.place-place.ensures
    (run-part c.part_len-len.result c.args.part c.args.at c.args.count c.args.values.now c.part_len-len.ensures)
    c.in_err-write_at.ensures.did)

pub returns-in_ok-write_at-clause-ran : goal.returns-in_ok-write_at-clause-ran
returns-in_ok-write_at-clause-ran g c =
    run-written g.D.Disk.means _ _ c.args.layout c.args.part c.args.values.now c.args.first c.args.at c.args.count _ _
    c.if-count-gt0.true c.place-place.ensures
    (run-part c.part_len-len.result c.args.part c.args.at c.args.count c.args.values.now c.part_len-len.ensures)
    c.in_ok-write_at.ensures.did
