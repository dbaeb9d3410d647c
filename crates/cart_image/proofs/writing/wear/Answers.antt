use Rattle.std.proofs.Common.{[], ◌∷◌, ◌∙◌, sym}
use Rattle.cart_image.specs.Image.{view_in}
use Rattle.cart_image.specs.declared.layout.Part.TheVariants.{GateByte}
use Rattle.cart_image.specs.Layout.{put, place, closed_gate}
use Rattle.cart_image.specs.State.{state_of}
use Rattle.cart_image.proofs.Exits.{Carried-runs, planned-by}
use Rattle.cart_image.proofs.Runs.{Looks-nothing}
use Rattle.cart_image.proofs.States.{wear-readable}
use Rattle.cart_image.proofs.writing.wear.Goals as goal

pub returns-in-Readable-clause-carried : goal.returns-in-Readable-clause-carried
returns-in-Readable-clause-carried g c =
    Carried-runs g.D.Disk.means _ _ _ _ (put (place c.args.layout GateByte c.args.sector) (closed_gate ∷ [])) _
    (Looks-nothing g.D.Disk.means _) c.put_gate.ensures.ran
    (planned-by (g.D.Disk.means.told c.args.disk.now) c.args.state (λ b. state_of (view_in c.args.layout b c.args.sector)) _ _
    c.requires.state
    (λ bytes e. wear-readable c.args.layout c.args.sector _ (sym c.in-Readable.is ∙ e)))
