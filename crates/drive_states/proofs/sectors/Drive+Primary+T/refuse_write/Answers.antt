use Rattle.drive_states.proofs.sectors.Drive+Primary+T.refuse_write.Goals as goal

pub invariant_of-self : goal.invariant_of-self
invariant_of-self g c =
    let here = c.self.invariant in
    (here.0, here.1, rw c.read_sector.ensures.size here.2)
