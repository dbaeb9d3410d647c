use Rattle.std.proofs.Common.{◌≡◌, true, sym, ◌∙◌}
use Rattle.drive_spec.specs.Deck.{is_stopped}
use Rattle.drive_states.proofs.Places.{IsIn-there}
use Rattle.drive_states.proofs.transitions.Drive+Seeking+M+T.tick.Goals as goal

pub of-requires-clause-state : goal.of-requires-clause-state
of-requires-clause-state g c =
    let held = c.into_parts-tape.ensures in
    let over : is_stopped c.ticked-deck.result.motion ≡ true = sym c.is_stopped.ensures ∙ c.if-is_stopped.true in
    rw (c.ticked-deck.ensures, held.deck) (IsIn-there g.M.State.state c.args.self.deck held.state g.met.M.Standing.stands
    (rw (c.ticked-deck.ensures, held.deck) at over))
