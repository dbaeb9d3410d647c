use Rattle.std.proofs.Common.{refl}
use Rattle.drive_states.proofs.Places.{IsIn-home}
use Rattle.drive_states.proofs.drive.Drive.seek_load_point.Goals as goal

pub returns-in-Some-clause-refused : goal.returns-in-Some-clause-refused
returns-in-Some-clause-refused g c = record { refused = rw (← c.self.view_is, ← c.refusal.ensures) c.in-Some.is; unchanged = refl }

pub accepted-requires-clause-taken : goal.accepted-requires-clause-taken
accepted-requires-clause-taken g c = rw (← c.self.view_is, ← c.refusal.ensures) c.in_default.is

pub accepted-requires-clause-state : goal.accepted-requires-clause-state
accepted-requires-clause-state g c =
    rw (← c.self.view_is)
    (IsIn-home g.M.State.state g.M.Home.State.state c.self.inside.deck c.self.invariant.1 g.met.M.Standing.goes_home)

pub returns-clause-obeyed : goal.returns-clause-obeyed
returns-clause-obeyed g c = c.accepted.ensures
