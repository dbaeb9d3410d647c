use Rattle.drive_states.proofs.Bounds.{IsSound-run_on}
use Rattle.drive_states.proofs.Places.{IsIn-run_on}
use Rattle.drive_states.proofs.drive.Drive.run_on.Goals as goal

pub invariant_of-self : goal.invariant_of-self
invariant_of-self g c =
    let here = c.self.invariant in
    let streams = rw (← c.self.view_is) at c.requires in
    rw c.run_on-self-inside.ensures (
      IsSound-run_on c.self.inside.deck here.0 streams,
      IsIn-run_on _ c.self.inside.deck here.1 streams,
      here.2,
    )
