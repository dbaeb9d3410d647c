use Rattle.std.proofs.Common.{refl, arith}
use Rattle.drive_states.proofs.Places.{IsIn-skipped, IsParameter-skip}
use Rattle.drive_states.proofs.drive.Drive.skip.Goals as goal

pub returns-in-Some-clause-refused : goal.returns-in-Some-clause-refused
returns-in-Some-clause-refused g c = record {
  refused = rw (← c.self.view_is, ← c.skip_command-command.ensures, ← c.refusal.ensures) c.in-Some.is;
  unchanged = refl;
}

pub given-requires-clause-taken : goal.given-requires-clause-taken
given-requires-clause-taken g c = rw (← c.self.view_is, ← c.refusal.ensures) c.in_default.is

pub given-requires-clause-parameter : goal.given-requires-clause-parameter
given-requires-clause-parameter g c =
    rw (c.skip_command-command.ensures, c.from.ensures) (IsParameter-skip c.args.forward c.args.count (omega arith))

pub given-requires-clause-state : goal.given-requires-clause-state
given-requires-clause-state g c =
    rw (c.skip_command-command.ensures, c.from.ensures, ← c.self.view_is)
    (IsIn-skipped g.M.State.state g.M.Moved.State.state c.self.inside.deck c.args.forward c.args.count c.self.invariant.1
    g.met.M.Standing.moves)

pub returns-clause-obeyed : goal.returns-clause-obeyed
returns-clause-obeyed g c = rw (c.skip_command-command.ensures, c.from.ensures) at c.given.ensures
