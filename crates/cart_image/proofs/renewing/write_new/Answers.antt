use Rattle.std.proofs.Common.{◌++◌, false, ap}
use Rattle.std.proofs.lemmas.Result.{err_from_is_err_and}
use Rattle.cart_image.specs.Layout.{head_len, image_len, clear_steps, resize, renew_steps, sign_steps}
use Rattle.cart_image.proofs.Exits.{Runs-err, Runs-after}
use Rattle.cart_image.proofs.Loops.{halted-is, ran-is}
use Rattle.cart_image.proofs.Runs.{Ran-Halted, Halted-front}
use Rattle.cart_image.proofs.renewing.write_new.Goals as goal

pub returns-in_err-begin-clause-ran : goal.returns-in_err-begin-clause-ran
unfolding renew_steps
returns-in_err-begin-clause-ran g c =
    let n = c.args.segments_per_track in
    let p = err_from_is_err_and c.from_residual-in_err-begin.result c.from_residual-in_err-begin.ensures.1 in
    Runs-err g.D.Disk.means _ _ _ c.from_residual-in_err-begin.result p.0 p.1
    (Ran-Halted g.D.Disk.means _ _ _ (clear_steps c.args.first) (resize head_len ++ (resize (image_len n) ++ sign_steps false n))
    c.in_ok-clear_first.ensures.ran
    (Halted-front g.D.Disk.means _ _ (resize head_len) (resize (image_len n) ++ sign_steps false n) c.in_err-begin.ensures.ran))

pub returns-in_err-put_len-clause-ran : goal.returns-in_err-put_len-clause-ran
unfolding renew_steps
returns-in_err-put_len-clause-ran g c =
    let n = c.args.segments_per_track in
    let p = err_from_is_err_and c.from_residual-in_err-put_len.result c.from_residual-in_err-put_len.ensures.1 in
    Runs-err g.D.Disk.means _ _ _ c.from_residual-in_err-put_len.result p.0 p.1
    (Ran-Halted g.D.Disk.means _ _ _ (clear_steps c.args.first) (resize head_len ++ (resize (image_len n) ++ sign_steps false n))
    c.in_ok-clear_first.ensures.ran
    (Ran-Halted g.D.Disk.means _ _ _ (resize head_len) (resize (image_len n) ++ sign_steps false n) c.in_ok-begin.ensures.ran
    (Halted-front g.D.Disk.means _ _ (resize (image_len n)) (sign_steps false n)
    (halted-is g.D.Disk.means _ _ (resize c.image_len.result) _ (ap resize c.image_len.ensures) c.in_err-put_len.ensures.ran))))

pub returns-clause-ran : goal.returns-clause-ran
unfolding renew_steps
returns-clause-ran g c =
    let n = c.args.segments_per_track in
    Runs-after g.D.Disk.means _ _ _ (clear_steps c.args.first) (resize head_len ++ (resize (image_len n) ++ sign_steps false n))
    c.sign.result c.in_ok-clear_first.ensures.ran
    (Runs-after g.D.Disk.means _ _ _ (resize head_len) (resize (image_len n) ++ sign_steps false n) c.sign.result
    c.in_ok-begin.ensures.ran
    (Runs-after g.D.Disk.means _ _ _ (resize (image_len n)) (sign_steps false n) c.sign.result
    (ran-is g.D.Disk.means _ _ (resize c.image_len.result) _ (ap resize c.image_len.ensures) c.in_ok-put_len.ensures.ran)
    c.sign.ensures.ran))
