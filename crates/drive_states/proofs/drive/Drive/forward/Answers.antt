use Rattle.std.proofs.Common.{◌≡◌, None, refl}
use Rattle.qic117_commands.specs.declared.command.Command.TheVariants.{LogicalForward}
use Rattle.drive_spec.specs.Terms.{refusal_of}
use Rattle.drive_states.proofs.Places.{IsIn-forward}
use Rattle.drive_states.proofs.drive.Drive.forward.Goals as goal

pub returns-in-Some-clause-refused : goal.returns-in-Some-clause-refused
returns-in-Some-clause-refused g c = record { refused = rw (← c.self.view_is, ← c.refusal.ensures) c.in-Some.is; unchanged = refl }

pub accepted-requires-clause-taken : goal.accepted-requires-clause-taken
accepted-requires-clause-taken g c = rw (← c.self.view_is, ← c.refusal.ensures) c.in_default.is

pub accepted-requires-clause-state : goal.accepted-requires-clause-state
accepted-requires-clause-state g c =
    let here = c.self.invariant in
    let taken : refusal_of c.self.inside.deck LogicalForward ≡ None = rw (← c.refusal.ensures) c.in_default.is in
    rw (← c.self.view_is) (IsIn-forward g.M.State.state g.M.Moved.State.state c.self.inside.deck here.0 here.1
    g.met.M.Standing.stands g.met.M.Standing.moves taken)

pub returns-clause-obeyed : goal.returns-clause-obeyed
returns-clause-obeyed g c = c.accepted.ensures
