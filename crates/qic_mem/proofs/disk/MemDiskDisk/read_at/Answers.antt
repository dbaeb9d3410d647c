use Rattle.std.proofs.Common.{refl}
use Rattle.qic_base.specs.Disk.{Look}
use Rattle.qic_mem.specs.Disk.{disk_state}
use Rattle.qic_mem.proofs.Counting.{counted-rose}
use Rattle.qic_mem.proofs.Crashing.{disk-refused}
use Rattle.qic_mem.proofs.disk.MemDiskDisk.read_at.Goals as goal

pub returns-then-begin-clause-did : goal.returns-then-begin-clause-did
unfolding disk_state
returns-then-begin-clause-did c =
    disk-refused _ _ Look c.settle.ensures refl refl c.begin.ensures.never_falls
    (counted-rose _ _ _ c.begin.ensures.counted c.if-begin.true) refl
