use Rattle.std.proofs.Common.{ap}
use Rattle.std.specs.Prelude.{slice_index}
use Rattle.std.proofs.lemmas.Result.{err_from_is_err_and}
use Rattle.cart_image.specs.Layout.{renew_steps}
use Rattle.cart_image.proofs.Exits.{Carried-failed, Carried-runs, planned-by}
use Rattle.cart_image.proofs.renewing.renew.Goals as goal

pub returns-in_err-first-clause-carried : goal.returns-in_err-first-clause-carried
returns-in_err-first-clause-carried g c =
    let p = err_from_is_err_and c.from_residual.result c.from_residual.ensures.1 in
    let l = c.in_err-first.ensures.looked in
    Carried-failed g.D.Disk.means _ l.0 _ _ _ p.0 p.1 l.1 l.2

pub returns-clause-carried : goal.returns-clause-carried
returns-clause-carried g c =
    Carried-runs g.D.Disk.means _ _ _ _ (renew_steps c.args.segments_per_track c.in_ok-first.first) _ c.in_ok-first.ensures.looked
    c.write_new.ensures.ran
    (planned-by (g.D.Disk.means.told c.args.disk.now) c.in_ok-first.first (λ b. slice_index b 0) _ _ c.in_ok-first.ensures.byte
    (λ bytes e. ap (renew_steps c.args.segments_per_track) e))
