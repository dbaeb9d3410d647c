use Rattle.std.proofs.Common.{◌≡◌, ◌∙◌, ◌/◌, ℕ, take, length, true, refl, ap, subst, arith, length-take}
use Rattle.qic_base.specs.Disk.{AreBytes, WriteAt}
use Rattle.qic_base.specs.Field.{overwritten}
use Rattle.qic_mem.specs.Disk.{disk_state}
use Rattle.qic_mem.specs.DiskBytes.{BytesState, bytes_state, disk_bytes-bytes, disk_bytes-seen}
use Rattle.qic_mem.proofs.Counting.{failure-rose, failure-stood, counted-rose, counted-stood}
use Rattle.qic_mem.proofs.Crashing.{disk-written, disk-broke, disk-refused}
use Rattle.qic_mem.proofs.Tearing.{write-torn, nothing-torn}
use Rattle.qic_mem.proofs.disk.MemDiskDisk.write_at.Goals as goal
use Rattle.qic_mem.proofs.disk.MemDiskDisk.write_at.Goals.{then-full, else-full}

pub returns-then-full-2-clause-did : goal.returns-then-full-2-clause-did
unfolding disk_state
returns-then-full-2-clause-did c =
    let failed : c.if-full.failed ≡ true =
    elim c.if-full.branch [ then-full w ↦ w.failed-is ∙ c.if-full-2.true | else-full w ↦ cc (w.if-full.false, c.if-full-2.true) ] in
    disk-refused _ _ (WriteAt c.args.place c.args.from.now) c.settle.ensures refl
    (nothing-torn (bytes_state c.args.self.now.bytes).bytes c.args.place (length c.args.from.now) (disk_bytes-bytes c.args.self.now.bytes))
    c.count.ensures.never_falls (counted-rose _ _ _ c.count.ensures.counted failed)
    (failure-rose _ _ _ c.count_failure.ensures.counted failed)

pub write_half-requires : goal.write_half-requires
unfolding disk_state
write_half-requires c = omega (arith, disk_bytes-seen c.args.self.now.bytes)

pub returns-then-failed-clause-did : goal.returns-then-failed-clause-did
unfolding disk_state
returns-then-failed-clause-did c =
    let is : (bytes_state c.write_half.new.self).bytes ≡ overwritten (bytes_state c.args.self.now.bytes).bytes c.args.place
    (take (length c.args.from.now / 2) c.args.from.now) =
    ap (λ (s : BytesState). s.bytes) c.write_half.ensures in
    disk-broke _ _ (WriteAt c.args.place c.args.from.now) c.add_entry.ensures is
    (write-torn _ _ c.args.place (length c.args.from.now) (omega (arith, length-take {A = ℕ}))
    (omega (arith, disk_bytes-seen c.args.self.now.bytes)) (subst AreBytes is (disk_bytes-bytes c.write_half.new.self)))
    c.count.ensures.never_falls (counted-rose _ _ _ c.count.ensures.counted c.if-failed.true)
    (failure-rose _ _ _ c.count_failure.ensures.counted c.if-failed.true)

pub write_at-requires : goal.write_at-requires
unfolding disk_state
write_at-requires c = omega (arith, disk_bytes-seen c.args.self.now.bytes)

pub returns-clause-did : goal.returns-clause-did
unfolding disk_state
returns-clause-did c =
    let is : (bytes_state c.write_at.new.self).bytes ≡ overwritten (bytes_state c.args.self.now.bytes).bytes c.args.place c.args.from.now =
    ap (λ (s : BytesState). s.bytes) c.write_at.ensures in
    disk-written _ _ c.args.place c.args.from.now c.add_entry-2.ensures is
    (write-torn (bytes_state c.args.self.now.bytes).bytes c.args.from.now c.args.place (length c.args.from.now) (omega arith)
    (omega (arith, disk_bytes-seen c.args.self.now.bytes)) (subst AreBytes is (disk_bytes-bytes c.write_at.new.self)))
    (counted-stood _ _ _ c.count.ensures.counted c.if-failed.false) (failure-stood _ _ _ c.count_failure.ensures.counted c.if-failed.false)
