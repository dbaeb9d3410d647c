use Rattle.std.proofs.Common.{refl}
use Rattle.qic117_commands.specs.declared.command.Command.TheVariants.{WriteReference}
use Rattle.drive_states.proofs.Bounds.{reference_of, IsSound-accepted, Knows-accepted}
use Rattle.drive_states.proofs.transitions.Drive+Format+T.write_reference.Goals as goal

pub of-requires-clause-sound : goal.of-requires-clause-sound
of-requires-clause-sound g c =
    let held = c.into_parts-tape.ensures in
    rw (c.accepted-deck.ensures, held.deck)
    (IsSound-accepted WriteReference c.args.self.deck held.sound (reference_of c.args.self.deck held.sound held.state.mode c.requires))

pub of-requires-clause-state : goal.of-requires-clause-state
of-requires-clause-state g c =
    let held = c.into_parts-tape.ensures in
    rw (c.accepted-deck.ensures, held.deck) record { mode = held.state.mode; at_load_point = held.state.at_load_point; seeks = refl }

pub of-requires-clause-known : goal.of-requires-clause-known
of-requires-clause-known g c =
    let held = c.into_parts-tape.ensures in
    rw (c.accepted-deck.ensures, held.deck, c.in-Ok.ensures.size, held.tape) (Knows-accepted WriteReference c.args.self.deck _ held.known)

pub returns-in-Ok-clause-obeyed : goal.returns-in-Ok-clause-obeyed
returns-in-Ok-clause-obeyed g c =
    let held = c.into_parts-tape.ensures in
    record {
      size = rw (c.of.ensures, c.in-Ok.ensures.size, held.tape) refl;
      taken = reference_of c.args.self.deck held.sound held.state.mode c.requires;
      deck = rw (c.of.ensures, c.accepted-deck.ensures, held.deck) refl;
      tape = rw (c.of.ensures, ← held.tape) c.in-Ok.ensures.did;
    }

pub returns-in-Err-clause-failed : goal.returns-in-Err-clause-failed
returns-in-Err-clause-failed g c =
    let held = c.into_parts-tape.ensures in
    record {
      size = rw (c.of-in-Err.ensures, c.in-Err.ensures.size, held.tape) refl;
      taken = reference_of c.args.self.deck held.sound held.state.mode c.requires;
      deck = rw (c.of-in-Err.ensures, c.unreferenced.ensures, c.accepted-deck.ensures, held.deck) refl;
      tape = rw (c.of-in-Err.ensures, ← held.tape) c.in-Err.ensures.did;
    }
