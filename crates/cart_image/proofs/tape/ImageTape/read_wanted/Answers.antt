use Rattle.std.proofs.Common.{[], refl}
use Rattle.qic_base.specs.CartridgeTerms.{place_of}
use Rattle.cart_image.specs.Image.{view_in}
use Rattle.qic_base.specs.TapeCalls.{ReadsSectors}
use Rattle.cart_image.proofs.Exits.{Carried-looked}
use Rattle.cart_image.proofs.Known.{whole-ok}
use Rattle.cart_image.proofs.Tapes.{looked-settled, no-plans, unknown-tape}
use Rattle.cart_image.proofs.tape.ImageTape.read_wanted.Goals as goal

pub invariant_of-self : goal.invariant_of-self
invariant_of-self g c =
    let s = c.args.self.now in
    unknown-tape s _ c.read_in_cells.result s refl c.read_in_cells.ensures.seen
    (looked-settled s _ c.read_in_cells.result c.read_in_cells.ensures.looked) (λ bytes. []) (no-plans s)
    (Carried-looked g.D.Disk.means _ _ c.read_in_cells.result c.read_in_cells.ensures.looked)

pub returns-else-touches-clause-reads : goal.returns-else-touches-clause-reads
returns-else-touches-clause-reads g c =
    whole-ok c.args.self.now c.args.layout c.args.segment 0 c.requires.layout c.requires.place c.read_in_cells.result
    (λ read bytes. ReadsSectors c.args.wanted read.good read.blank (λ i. view_in c.args.layout bytes (place_of c.args.segment i))
    c.args.into.now c.read_in_cells.new.into) c.read_in_cells.ensures.reads
