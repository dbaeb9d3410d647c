use Rattle.std.proofs.Common.{◌≡◌, ◌∙◌, true, refl}
use Rattle.qic_base.specs.Disk.{Sync}
use Rattle.qic_mem.specs.Disk.{disk_state}
use Rattle.qic_mem.proofs.Counting.{failure-rose, failure-stood, counted-rose, counted-stood}
use Rattle.qic_mem.proofs.Crashing.{disk-synced, disk-broke, disk-refused}
use Rattle.qic_mem.proofs.disk.MemDiskDisk.sync.Goals as goal
use Rattle.qic_mem.proofs.disk.MemDiskDisk.sync.Goals.{then-full, else-full}

pub returns-then-full-2-clause-did : goal.returns-then-full-2-clause-did
unfolding disk_state
returns-then-full-2-clause-did c =
    let failed : c.if-full.failed ≡ true =
    elim c.if-full.branch [ then-full w ↦ w.failed-is ∙ c.if-full-2.true | else-full w ↦ cc (w.if-full.false, c.if-full-2.true) ] in
    disk-refused _ _ Sync c.settle.ensures refl refl c.count.ensures.never_falls (counted-rose _ _ _ c.count.ensures.counted failed)
    (failure-rose _ _ _ c.count_failure.ensures.counted failed)

pub returns-then-failed-clause-did : goal.returns-then-failed-clause-did
unfolding disk_state
returns-then-failed-clause-did c =
    disk-broke _ _ Sync c.add_entry.ensures refl refl c.count.ensures.never_falls
    (counted-rose _ _ _ c.count.ensures.counted c.if-failed.true) (failure-rose _ _ _ c.count_failure.ensures.counted c.if-failed.true)

pub returns-clause-did : goal.returns-clause-did
unfolding disk_state
returns-clause-did c =
    disk-synced _ _ c.add_entry-2.ensures refl (counted-stood _ _ _ c.count.ensures.counted c.if-failed.false)
    (failure-stood _ _ _ c.count_failure.ensures.counted c.if-failed.false)
