use Rattle.std.proofs.Common.{[], ◌∷◌, ap, ◌∙◌, sym}
use Rattle.std.proofs.lemmas.Result.{err_from_is_err_and}
use Rattle.std.specs.Prelude.{slice_index, ◌==◌}
use Rattle.cart_image.specs.Layout.{put, mark_byte}
use Rattle.cart_image.proofs.Exits.{Carried-failed, Carried-runs, planned-by}
use Rattle.cart_image.proofs.States.{mark-set, mark-cleared}
use Rattle.cart_image.proofs.writing.set_mark.Goals as goal

pub returns-in_err-stands-clause-carried : goal.returns-in_err-stands-clause-carried
returns-in_err-stands-clause-carried g c =
    let p = err_from_is_err_and c.from_residual.result c.from_residual.ensures.1 in
    let l = c.in_err-stands.ensures.looked in
    Carried-failed g.D.Disk.means _ l.0 _ _ _ p.0 p.1 l.1 l.2

pub returns-in-true-false-clause-carried : goal.returns-in-true-false-clause-carried
returns-in-true-false-clause-carried g c =
    Carried-runs g.D.Disk.means _ _ _ _ (put c.args.place (mark_byte ∷ [])) _ c.in_ok-stands.ensures.looked c.put.ensures.ran
    (planned-by (g.D.Disk.means.told c.args.disk.now) c.in_ok-stands.field-0
    (λ b. slice_index b c.args.place) _ _ c.in_ok-stands.ensures.byte
    (λ bytes e. mark-set c.args.place (slice_index bytes c.args.place) c.args.on c.in-true-false.is-0
    (sym (ap (λ b. b == mark_byte) e) ∙ c.in-true-false.is-1)))

pub returns-in-false-true-clause-carried : goal.returns-in-false-true-clause-carried
returns-in-false-true-clause-carried g c =
    Carried-runs g.D.Disk.means _ _ _ _ (put c.args.place (0 ∷ [])) _ c.in_ok-stands.ensures.looked c.put-in-false-true.ensures.ran
    (planned-by (g.D.Disk.means.told c.args.disk.now) c.in_ok-stands.field-0
    (λ b. slice_index b c.args.place) _ _ c.in_ok-stands.ensures.byte
    (λ bytes e. mark-cleared c.args.place (slice_index bytes c.args.place) c.args.on c.in-false-true.is-0
    (sym (ap (λ b. b == mark_byte) e) ∙ c.in-false-true.is-1)))
