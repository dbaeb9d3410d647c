use Rattle.std.proofs.Common.{[], refl}
use Rattle.cart_image.specs.State.{AreStatesOf}
use Rattle.cart_image.proofs.Exits.{Carried-looked}
use Rattle.cart_image.proofs.Known.{known-states, whole-ok}
use Rattle.cart_image.proofs.Tapes.{looked-settled, no-plans, unknown-tape}
use Rattle.cart_image.proofs.tape.ImageTape.look_at_sectors.Goals as goal

pub invariant_of-self : goal.invariant_of-self
invariant_of-self g c =
    let s = c.args.self.now in
    unknown-tape s _ c.read_states.result s refl c.read_states.ensures.seen
    (looked-settled s _ c.read_states.result c.read_states.ensures.looked) (λ bytes. []) (no-plans s)
    (Carried-looked g.D.Disk.means _ _ c.read_states.result c.read_states.ensures.looked)

pub returns-in_ok-states-clause-states : goal.returns-in_ok-states-clause-states
returns-in_ok-states-clause-states g c =
    known-states c.args.self.now c.args.layout c.args.segment 0 c.requires.layout c.requires.place c.in_ok-states.states _ c.args.wanted
    c.in_ok-states.ensures.segment c.in_ok-states.ensures.looked.told c.in_ok-states.ensures.states

pub returns-else-touches-clause-states : goal.returns-else-touches-clause-states
returns-else-touches-clause-states g c =
    whole-ok c.args.self.now c.args.layout c.args.segment 0 c.requires.layout c.requires.place c.read_states.result
    (λ states bytes. AreStatesOf c.args.layout c.args.segment c.args.wanted bytes states) c.read_states.ensures.states
