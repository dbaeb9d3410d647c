use Rattle.std.proofs.Common.{[], ◌∷◌, drop, ap}
use Rattle.std.proofs.lemmas.Result.{err_from_is_err_and}
use Rattle.cart_image.specs.Layout.{first_letter, made_head, put, sign_steps}
use Rattle.cart_image.proofs.Exits.{Runs-after, Runs-err}
use Rattle.cart_image.proofs.Loops.{halted-is, ran-is}
use Rattle.cart_image.proofs.Runs.{Halted-front}
use Rattle.cart_image.proofs.making.sign.Goals as goal

pub returns-in_err-put-clause-ran : goal.returns-in_err-put-clause-ran
returns-in_err-put-clause-ran g c =
    let m = g.D.Disk.means in
    let head = put 1 (drop 1 (made_head c.args.referenced c.args.segments_per_track)) in
    let p = err_from_is_err_and c.from_residual.result c.from_residual.ensures.1 in
    Runs-err m c.args.disk.now c.put.new.disk (sign_steps c.args.referenced c.args.segments_per_track) c.from_residual.result p.0 p.1
    (Halted-front m c.args.disk.now c.put.new.disk head (put 0 (first_letter ∷ []))
    (halted-is m c.args.disk.now c.put.new.disk (put 1 c.head_rest.result) head (ap (put 1) c.head_rest.ensures)
    c.in_err-put.ensures.ran))

pub returns-clause-ran : goal.returns-clause-ran
returns-clause-ran g c =
    let m = g.D.Disk.means in
    let head = put 1 (drop 1 (made_head c.args.referenced c.args.segments_per_track)) in
    Runs-after m c.args.disk.now c.put.new.disk c.put-2.new.disk head (put 0 (first_letter ∷ [])) c.put-2.result
    (ran-is m c.args.disk.now c.put.new.disk (put 1 c.head_rest.result) head (ap (put 1) c.head_rest.ensures) c.in_ok-put.ensures.ran)
    c.put-2.ensures.ran
