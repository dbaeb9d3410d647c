use Rattle.drive_states.proofs.Bounds.{IsSound-accepted, Knows-accepted}
use Rattle.drive_states.proofs.drive.Drive.accepted.Goals as goal

pub of-requires-clause-sound : goal.of-requires-clause-sound
of-requires-clause-sound g c =
    let held = c.into_parts-tape.ensures in
    rw (c.accepted.ensures, held.deck) (IsSound-accepted c.args.command c.args.self.deck held.sound c.requires.taken)

pub of-requires-clause-known : goal.of-requires-clause-known
of-requires-clause-known g c =
    let held = c.into_parts-tape.ensures in
    rw (c.accepted.ensures, held.deck, held.tape) (Knows-accepted c.args.command c.args.self.deck _ held.known)
