use Rattle.qic_mem.proofs.tape.holder.Holder.lose.Goals as goal

pub returns-in-WriteSectors : goal.returns-in-WriteSectors
returns-in-WriteSectors c = rw c.in-WriteSectors.is c.wear_sectors.ensures
