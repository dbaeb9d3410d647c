use Rattle.std.proofs.Common.{[], ◌∷◌, ap, ◌∙◌, sym}
use Rattle.std.proofs.lemmas.Result.{err_from_is_err_and}
use Rattle.cart_image.specs.Image.{view_in}
use Rattle.cart_image.specs.Layout.{put, defect_byte}
use Rattle.cart_image.specs.State.{state_of}
use Rattle.cart_image.proofs.Exits.{Carried-halted, Carried-runs, planned-by}
use Rattle.cart_image.proofs.Runs.{Looks-nothing}
use Rattle.cart_image.proofs.States.{spoil-blank}
use Rattle.cart_image.proofs.writing.spoil.Goals as goal

pub returns-in_err-put-in-Blank-clause-carried : goal.returns-in_err-put-in-Blank-clause-carried
returns-in_err-put-in-Blank-clause-carried g c =
    let p = err_from_is_err_and c.from_residual.result c.from_residual.ensures.1 in
    Carried-halted g.D.Disk.means _ _ _ _ (put c.place.result (defect_byte ∷ [])) _ p.0 p.1
    (Looks-nothing g.D.Disk.means _) c.in_err-put-in-Blank.ensures.ran
    (planned-by (g.D.Disk.means.told c.args.disk.now) c.args.state (λ b. state_of (view_in c.args.layout b c.args.sector)) _ _
    c.requires.state
    (λ bytes e. ap (λ p. put p (defect_byte ∷ [])) c.place.ensures ∙ (spoil-blank c.args.layout c.args.sector _ (sym c.in-Blank.is ∙ e)).0))

pub returns-in_ok-put-in-Blank-clause-carried : goal.returns-in_ok-put-in-Blank-clause-carried
returns-in_ok-put-in-Blank-clause-carried g c =
    Carried-runs g.D.Disk.means _ _ _ _ (put c.place.result (defect_byte ∷ [])) _
    (Looks-nothing g.D.Disk.means _) c.in_ok-put-in-Blank.ensures.ran
    (planned-by (g.D.Disk.means.told c.args.disk.now) c.args.state (λ b. state_of (view_in c.args.layout b c.args.sector)) _ _
    c.requires.state
    (λ bytes e. ap (λ p. put p (defect_byte ∷ [])) c.place.ensures ∙ (spoil-blank c.args.layout c.args.sector _ (sym c.in-Blank.is ∙ e)).0))
