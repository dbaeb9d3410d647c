use Rattle.std.proofs.Common.{refl}
use Rattle.qic_mem.proofs.disk.log.DiskRecord.history.Goals as goal

pub returns : goal.returns
returns c = rw (← c.self.view_is, c.deref.ensures.value, c.deref-2.ensures.value) (refl, c.self.invariant.taken)
