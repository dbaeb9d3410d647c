use Rattle.drive_states.proofs.drive.Drive.read_under.Goals as goal

pub invariant_of-self : goal.invariant_of-self
invariant_of-self g c =
    let here = c.self.invariant in
    (here.0, here.1, rw c.read_sector.ensures.size here.2)

pub invariant_of-self-in-Ok-Lost : goal.invariant_of-self-in-Ok-Lost
invariant_of-self-in-Ok-Lost g c =
    let here = c.self.invariant in
    (here.0, here.1, rw c.read_sector.ensures.size here.2)

pub invariant_of-self-in-Ok-Blank : goal.invariant_of-self-in-Ok-Blank
invariant_of-self-in-Ok-Blank g c =
    let here = c.self.invariant in
    (here.0, here.1, rw c.read_sector.ensures.size here.2)

pub invariant_of-self-in-Err : goal.invariant_of-self-in-Err
invariant_of-self-in-Err g c =
    let here = c.self.invariant in
    (here.0, here.1, rw c.read_sector.ensures.size here.2)
