use Rattle.std.proofs.Common.{[], refl}
use Rattle.cart_image.proofs.Exits.{Carried-looked}
use Rattle.cart_image.proofs.Known.{in-segment, segment-place, known-state, read-state-ok, known-segment}
use Rattle.cart_image.proofs.Tapes.{looked-settled, no-plans, unknown-tape, q-on-tape}
use Rattle.cart_image.proofs.tape.ImageTape.look.Goals as goal

pub look_at_segment-requires-clause-place : goal.look_at_segment-requires-clause-place
look_at_segment-requires-clause-place g c = segment-place _ c.args.segment c.args.sector c.requires.place

pub of-requires : goal.of-requires
of-requires g c = in-segment c.args.self.now c.args.layout c.args.segment c.args.sector c.requires.layout c.requires.place

pub returns-in_ok-states-clause-state : goal.returns-in_ok-states-clause-state
returns-in_ok-states-clause-state g c =
    known-state c.args.self.now c.args.layout c.args.segment c.args.sector c.requires.layout c.requires.place c.in_ok-states.states
    c.of.result _ c.in_ok-states.ensures.segment c.in_ok-states.ensures.looked.told c.in_ok-states.ensures.states c.of.ensures

pub returns-in_ok-states-clause-known : goal.returns-in_ok-states-clause-known
returns-in_ok-states-clause-known g c = known-segment _ c.in_ok-states.states c.args.segment c.in_ok-states.ensures.known
    c.in_ok-states.ensures.segment

pub read_state-requires-clause-place : goal.read_state-requires-clause-place
read_state-requires-clause-place g c = q-on-tape c.args.self.now c.args.layout c.args.segment c.args.sector c.requires.layout
    c.requires.place c.sector_number.result c.sector_number.ensures

pub invariant_of-self : goal.invariant_of-self
invariant_of-self g c =
    let s = c.args.self.now in
    unknown-tape s _ c.read_state.result s refl c.read_state.ensures.seen
    (looked-settled s _ c.read_state.result c.read_state.ensures.looked) (λ bytes. []) (no-plans s)
    (Carried-looked g.D.Disk.means _ _ c.read_state.result c.read_state.ensures.looked)

pub returns-else-touches-clause-state : goal.returns-else-touches-clause-state
returns-else-touches-clause-state g c =
    read-state-ok c.args.self.now c.args.layout c.args.segment c.args.sector c.requires.layout c.requires.place c.read_state.result
    c.sector_number.result _ c.sector_number.ensures c.read_state.ensures.looked c.read_state.ensures.state
