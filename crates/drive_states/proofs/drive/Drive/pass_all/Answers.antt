use Rattle.drive_states.proofs.Passing.{IsSound-passed_all, IsIn-passed_all}
use Rattle.drive_states.proofs.drive.Drive.pass_all.Goals as goal

pub invariant_of-self : goal.invariant_of-self
invariant_of-self g c =
    let here = c.self.invariant in
    let streams = rw (← c.self.view_is) at c.requires in
    rw c.passed_all-self-inside.ensures
    (IsSound-passed_all _ _ _ here.0 streams, IsIn-passed_all _ _ _ _ here.1 streams, here.2)
