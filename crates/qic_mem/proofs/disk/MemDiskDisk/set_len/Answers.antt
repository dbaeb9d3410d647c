use Rattle.std.proofs.Common.{◌≡◌, ◌∙◌, true, refl, ap, inl, inr, subst}
use Rattle.qic_base.specs.Disk.{AreBytes, SetLen, resized}
use Rattle.qic_mem.specs.Disk.{disk_state}
use Rattle.qic_mem.specs.DiskBytes.{BytesState, bytes_state, disk_bytes-bytes}
use Rattle.qic_mem.proofs.Counting.{failure-rose, failure-stood, counted-rose, counted-stood}
use Rattle.qic_mem.proofs.Crashing.{disk-resized, disk-broke, disk-refused}
use Rattle.qic_mem.proofs.Tearing.{resized-torn}
use Rattle.qic_mem.proofs.disk.MemDiskDisk.set_len.Goals as goal
use Rattle.qic_mem.proofs.disk.MemDiskDisk.set_len.Goals.{then-full, else-full, then-room-length, else-room-length}

pub returns-then-full-2-clause-did : goal.returns-then-full-2-clause-did
unfolding disk_state
returns-then-full-2-clause-did c =
    let refused : c.if-full.value ≡ true =
    elim c.if-full.branch [ then-full w ↦ w.value-is ∙ c.if-full-2.true | else-full w ↦ cc (w.if-full.false, c.if-full-2.true) ] in
    let failed : c.if-room-length.failed ≡ true =
    elim c.if-room-length.branch [
      | then-room-length w ↦ w.failed-is ∙ refused
      | else-room-length w ↦ cc
          (w.if-room-length.false, refused)
    ] in
    disk-refused _ _ (SetLen c.args.length) c.settle.ensures (ap (λ (s : BytesState). s.bytes) c.forget.ensures) (inl refl)
    c.count.ensures.never_falls (counted-rose _ _ _ c.count.ensures.counted failed)
    (failure-rose _ _ _ c.count_failure.ensures.counted failed)

pub returns-then-failed-clause-did : goal.returns-then-failed-clause-did
unfolding disk_state
returns-then-failed-clause-did c =
    disk-broke _ _ (SetLen c.args.length) c.add_entry.ensures (ap (λ (s : BytesState). s.bytes) c.forget-then-failed.ensures) (inl refl)
    c.count.ensures.never_falls (counted-rose _ _ _ c.count.ensures.counted c.if-failed.true)
    (failure-rose _ _ _ c.count_failure.ensures.counted c.if-failed.true)

pub returns-clause-did : goal.returns-clause-did
unfolding disk_state
returns-clause-did c =
    let is : (bytes_state c.set_len.new.self).bytes ≡ resized c.args.length (bytes_state c.args.self.now.bytes).bytes =
    ap (λ (s : BytesState). s.bytes) c.set_len.ensures in
    disk-resized _ _ c.args.length c.add_entry-2.ensures is
    (inr (resized-torn (bytes_state c.args.self.now.bytes).bytes c.args.length (subst AreBytes is (disk_bytes-bytes c.set_len.new.self))))
    (counted-stood _ _ _ c.count.ensures.counted c.if-failed.false) (failure-stood _ _ _ c.count_failure.ensures.counted c.if-failed.false)
