use Rattle.drive_states.proofs.Places.{IsSound-reached, IsIn-reached}
use Rattle.drive_states.proofs.drive.Drive.pass.Goals as goal

pub invariant_of-self : goal.invariant_of-self
invariant_of-self g c =
    let here = c.self.invariant in
    let under = rw (← c.self.view_is) at c.requires.streams in
    rw c.passed-self-inside.ensures (IsSound-reached _ _ here.0 under c.requires.fits, IsIn-reached _ _ _ here.1 under, here.2)
