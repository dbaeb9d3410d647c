use Rattle.drive_states.proofs.Bounds.{IsSound-given, Knows-given}
use Rattle.drive_states.proofs.drive.Drive.given.Goals as goal

pub of-requires-clause-sound : goal.of-requires-clause-sound
of-requires-clause-sound g c =
    let held = c.into_parts-tape.ensures in
    rw (c.given.ensures, held.deck) (IsSound-given c.args.command c.args.parameter c.args.self.deck held.sound c.requires.taken
    c.requires.parameter)

pub of-requires-clause-known : goal.of-requires-clause-known
of-requires-clause-known g c =
    let held = c.into_parts-tape.ensures in
    rw (c.given.ensures, held.deck, held.tape) (Knows-given c.args.command c.args.parameter c.args.self.deck _ held.known)
