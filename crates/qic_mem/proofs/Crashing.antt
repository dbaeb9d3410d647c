-- What one more call of a disk in memory does to its record, and to what a crash leaves by it.
use Rattle.std.proofs.Common.{◌≡◌, ◌⊎◌, ℕ, ◌≤◌, inl, inr, Bool, true, false, List, [], ◌∷◌, length, Option, Some, None, is_some, refl, sym}
use Rattle.std.proofs.Common.{ap, ◌∙◌, subst, arith, if◌then◌else◌}
use Rattle.qic_base.specs.Tape.{Rose}
use Rattle.qic_base.specs.Disk.{DiskStep, Look, WriteAt, SetLen, Sync, stored, Unsynced, Crashes, ChangesCounted, Stored, Failed}
use Rattle.qic_mem.specs.declared.disk.MemDisk.{MemDisk}
use Rattle.qic_mem.specs.Disk.{disk_state, disk_means}
use Rattle.qic_mem.specs.DiskLog.{DiskEvent, Made, Broke, Settled, DiskPoint, DiskLog, at_rest, after_made, point_of, broken, MayLeave}
use Rattle.qic_mem.specs.DiskLog.{LeftInside, LeftSince, is_pending, logged, settled, moment_of, may_leave_of, left_of}
use Rattle.qic_mem.specs.DiskLogLaws.{Stands, since-now, leave-told}
use Rattle.qic_mem.specs.DiskBytes.{bytes_state}

-- a crash inside a step of a disk with a record or with none
abbrev InsideOf : Option DiskLog → List ℕ → DiskStep → List ℕ → Type 0
InsideOf log told s left = (before : List ℕ) × may_leave_of log told before × Unsynced s before left

-- ---- behind an event

-- behind a step that was done a crash leaves what one inside it leaves
made-inside : (p : DiskPoint) (s : DiskStep) (left : List ℕ) → Unsynced s p.told (stored s p.told) → MayLeave (after_made s p) left →
    LeftInside p s left
made-inside p Look left torn (inl is) = (p.told, inl refl, is)
made-inside p Look left torn (inr (before, chain, unsynced)) = (before, inr chain, unsynced)
made-inside p (WriteAt place part) left torn (inl is) = (p.told, inl refl, rw is torn)
made-inside p (WriteAt place part) left torn (inr (before, chain, unsynced)) = (before, inr chain, unsynced)
made-inside p (SetLen n) left torn (inl is) = (p.told, inl refl, rw is torn)
made-inside p (SetLen n) left torn (inr (before, chain, unsynced)) = (before, inr chain, unsynced)
made-inside p Sync left torn (inl is) = (p.told, inl refl, is)
made-inside p Sync left torn (inr is) = (p.told, inl refl, is)

-- behind one that failed too
rest-inside : (p : DiskPoint) (s : DiskStep) (bytes left : List ℕ) → Unsynced s p.told bytes → MayLeave (at_rest bytes) left →
    LeftInside p s left
rest-inside p s bytes left torn (inl is) = (p.told, inl refl, subst (λ (l : List ℕ). Unsynced s p.told l) (sym is) torn)
rest-inside p s bytes left torn (inr is) = (p.told, inl refl, subst (λ (l : List ℕ). Unsynced s p.told l) (sym is) torn)

rest-only : (bytes left : List ℕ) → MayLeave (at_rest bytes) left → left ≡ bytes
rest-only bytes left (inl is) = is
rest-only bytes left (inr is) = is

-- ---- one more event

since-parted : (events : List DiskEvent) (event : DiskEvent) (t u : ℕ) (left : List ℕ) → u ≤ length events →
    LeftSince (event ∷ events) t left → LeftSince events t left ⊎ LeftSince (event ∷ events) u left
since-parted events event t u left early (inl was) = inl was
since-parted events event t u left early (inr (inl (late, during))) = inr (inr (inl (early, during)))
since-parted events event t u left early (inr (inr (late, may))) = inr (inr (inr (omega arith, may)))

since-made : (events : List DiskEvent) (s : DiskStep) (t : ℕ) (left : List ℕ) →
    Unsynced s (point_of events).told (stored s (point_of events).told) → LeftSince (Made s ∷ events) t left → LeftSince events t left
    ⊎ LeftInside (point_of events) s left
since-made events s t left torn (inl was) = inl was
since-made events s t left torn (inr (inl (late, during))) = inr during
since-made events s t left torn (inr (inr (late, may))) = inr (made-inside (point_of events) s left torn may)

since-broke : (events : List DiskEvent) (s : DiskStep) (t : ℕ) (left : List ℕ) →
    Unsynced s (point_of events).told (broken s (point_of events).told) → LeftSince (Broke s ∷ events) t left → LeftSince events t left
    ⊎ LeftInside (point_of events) s left
since-broke events s t left torn (inl was) = inl was
since-broke events s t left torn (inr (inl (late, during))) = inr during
since-broke events s t left torn (inr (inr (late, may))) =
    inr (rest-inside (point_of events) s (broken s (point_of events).told) left torn may)

since-settled : (events : List DiskEvent) (t : ℕ) (left : List ℕ) → t ≤ length events → LeftSince (Settled ∷ events) t left →
    LeftSince events t left
since-settled events t left early (inl was) = was
since-settled events t left early (inr (inl (late, during))) = since-now events t left early during
since-settled events t left early (inr (inr (late, may))) =
    since-now events t left early (inl (rest-only (point_of events).told left may))

-- ---- the same of a disk with a record or with none

logged-telling : (log : Option DiskLog) (event : DiskEvent) → is_some (logged log event) ≡ is_some log
logged-telling None event = refl
logged-telling (Some l) event = refl

logged-clock : (log : Option DiskLog) (event : DiskEvent) → moment_of log ≤ moment_of (logged log event)
logged-clock None event = omega arith
logged-clock (Some l) event = omega arith

logged-kept : (log : Option DiskLog) (event : DiskEvent) (t : ℕ) (left : List ℕ) → left_of log t left → left_of (logged log event) t left
logged-kept None event t left was = tt
logged-kept (Some l) event t left was = inl was

logged-parted : (log : Option DiskLog) (event : DiskEvent) (t u : ℕ) (left : List ℕ) → u ≤ moment_of log →
    left_of (logged log event) t left → left_of log t left ⊎ left_of (logged log event) u left
logged-parted None event t u left early was = inl tt
logged-parted (Some l) event t u left early was = since-parted l.events event t u left early was

made-since : (log : Option DiskLog) (told : List ℕ) (s : DiskStep) (t : ℕ) (left : List ℕ) → Stands log told →
    Unsynced s told (stored s told) → left_of (logged log (Made s)) t left → left_of log t left ⊎ InsideOf log told s left
made-since None told s t left stands torn was = inl tt
made-since (Some l) told s t left stands torn was =
    let here : (point_of l.events).told ≡ told = stands l refl in
    since-made l.events s t left (rw here torn) was

broke-since : (log : Option DiskLog) (told : List ℕ) (s : DiskStep) (t : ℕ) (left : List ℕ) → Stands log told →
    Unsynced s told (broken s told) → left_of (logged log (Broke s)) t left → left_of log t left ⊎ InsideOf log told s left
broke-since None told s t left stands torn was = inl tt
broke-since (Some l) told s t left stands torn was =
    let here : (point_of l.events).told ≡ told = stands l refl in
    since-broke l.events s t left (rw here torn) was

-- what a crash now leaves behind a step that was done
made-leaves : (log : Option DiskLog) (told : List ℕ) (s : DiskStep) (left : List ℕ) → Stands log told → Unsynced s told (stored s told) →
    may_leave_of (logged log (Made s)) (stored s told) left → InsideOf log told s left
made-leaves None told s left stands torn may = (told, refl, subst (λ (l : List ℕ). Unsynced s told l) (sym may) torn)
made-leaves (Some l) told s left stands torn may =
    let here : (point_of l.events).told ≡ told = stands l refl in
    made-inside (point_of l.events) s left (rw here torn) may

made-rests : (log : Option DiskLog) (told left : List ℕ) → Stands log told → may_leave_of (logged log (Made Sync)) told left → left ≡ told
made-rests None told left stands may = may
made-rests (Some l) told left stands may = rest-only (point_of l.events).told left may ∙ stands l refl

broke-rests : (log : Option DiskLog) (told left : List ℕ) (s : DiskStep) → Stands log told → may_leave_of (logged log (Broke s))
    (broken s told) left → left ≡ broken s told
broke-rests None told left s stands may = may
broke-rests (Some l) told left s stands may =
    rest-only (broken s (point_of l.events).told) left may ∙ ap (broken s) (stands l refl)

-- ---- a failure that is not recorded

abbrev one_more : DiskLog → Bool → Option DiskLog
one_more l pending = Some (if pending then record l { events = Settled ∷ l.events } else l)

rests-at : (events : List DiskEvent) (left : List ℕ) → is_pending (point_of events) ≡ false → MayLeave (point_of events) left →
    left ≡ (point_of events).told
rests-at [] left none may = rest-only [] left may
rests-at (Made Look ∷ events) left none may = cc
rests-at (Made (WriteAt place part) ∷ events) left none may = cc
rests-at (Made (SetLen n) ∷ events) left none may = cc
rests-at (Made Sync ∷ events) left none may = rest-only (point_of events).told left may
rests-at (Broke s ∷ events) left none may = rest-only (broken s (point_of events).told) left may
rests-at (Settled ∷ events) left none may = rest-only (point_of events).told left may

rests-by : (l : DiskLog) (told left : List ℕ) (pending : Bool) → is_pending (point_of l.events) ≡ pending →
    (point_of l.events).told ≡ told → may_leave_of (one_more l pending) told left → left ≡ told
rests-by l told left true is here may = rest-only (point_of l.events).told left may ∙ here
rests-by l told left false is here may = rests-at l.events left is may ∙ here

settled-rests : (log : Option DiskLog) (told left : List ℕ) → Stands log told → may_leave_of (settled log) told left → left ≡ told
settled-rests None told left stands may = may
settled-rests (Some l) told left stands may = rests-by l told left (is_pending (point_of l.events)) refl (stands l refl) may

settled-telling : (log : Option DiskLog) → is_some (settled log) ≡ is_some log
settled-telling None = refl
settled-telling (Some l) = refl

clock-by : (l : DiskLog) (pending : Bool) → length l.events ≤ moment_of (one_more l pending)
clock-by l true = omega arith
clock-by l false = omega arith

settled-clock : (log : Option DiskLog) → moment_of log ≤ moment_of (settled log)
settled-clock None = omega arith
settled-clock (Some l) = clock-by l (is_pending (point_of l.events))

kept-by : (l : DiskLog) (pending : Bool) (t : ℕ) (left : List ℕ) → left_of (Some l) t left → left_of (one_more l pending) t left
kept-by l true t left was = inl was
kept-by l false t left was = was

settled-kept : (log : Option DiskLog) (t : ℕ) (left : List ℕ) → left_of log t left → left_of (settled log) t left
settled-kept None t left was = tt
settled-kept (Some l) t left was = kept-by l (is_pending (point_of l.events)) t left was

since-by : (l : DiskLog) (pending : Bool) (t : ℕ) (left : List ℕ) → t ≤ length l.events → left_of (one_more l pending) t left →
    left_of (Some l) t left
since-by l true t left early was = since-settled l.events t left early was
since-by l false t left early was = was

settled-since : (log : Option DiskLog) (t : ℕ) (left : List ℕ) → t ≤ moment_of log → left_of (settled log) t left → left_of log t left
settled-since None t left early was = tt
settled-since (Some l) t left early was = since-by l (is_pending (point_of l.events)) t left early was

-- ---- what a call did

crashes-made : (old new : MemDisk) (s : DiskStep) → new.log ≡ logged old.log (Made s) →
    Unsynced s (disk_state old).bytes (stored s (disk_state old).bytes) → Crashes disk_means old new s
unfolding disk_state
crashes-made old new s noted torn = record {
  telling = rw noted (logged-telling old.log (Made s));
  clock = rw noted (logged-clock old.log (Made s));
  kept = λ t left early was. rw noted (logged-kept old.log (Made s) t left was);
  parted = λ t u left order early was. rw noted (logged-parted old.log (Made s) t u left early (rw noted at was));
  since = λ t left early was. made-since old.log (bytes_state old.bytes).bytes s t left old.recorded torn (rw noted at was);
}

crashes-broke : (old new : MemDisk) (s : DiskStep) → new.log ≡ logged old.log (Broke s) →
    Unsynced s (disk_state old).bytes (broken s (disk_state old).bytes) → Crashes disk_means old new s
unfolding disk_state
crashes-broke old new s noted torn = record {
  telling = rw noted (logged-telling old.log (Broke s));
  clock = rw noted (logged-clock old.log (Broke s));
  kept = λ t left early was. rw noted (logged-kept old.log (Broke s) t left was);
  parted = λ t u left order early was. rw noted (logged-parted old.log (Broke s) t u left early (rw noted at was));
  since = λ t left early was. broke-since old.log (bytes_state old.bytes).bytes s t left old.recorded torn (rw noted at was);
}

crashes-settled : (old new : MemDisk) (s : DiskStep) → new.log ≡ settled old.log → Crashes disk_means old new s
unfolding disk_state
crashes-settled old new s noted = record {
  telling = rw noted (settled-telling old.log);
  clock = rw noted (settled-clock old.log);
  kept = λ t left early was. rw noted (settled-kept old.log t left was);
  parted = λ t u left order early was. inl (settled-since old.log t left (omega arith) (rw noted at was));
  since = λ t left early was. inl (settled-since old.log t left early (rw noted at was));
}

-- a write that was done
pub disk-written : (old new : MemDisk) (place : ℕ) (part : List ℕ) → new.log ≡ logged old.log (Made (WriteAt place part)) →
    (disk_state new).bytes ≡ stored (WriteAt place part) (disk_state old).bytes → Unsynced (WriteAt place part) (disk_state old).bytes
    (stored (WriteAt place part) (disk_state old).bytes) → (disk_state new).plan.faults ≡ (disk_state old).plan.faults →
    (disk_state new).failed_changes ≡ (disk_state old).failed_changes → Stored disk_means old new (WriteAt place part)
unfolding disk_state
disk-written old new place part noted is torn later changes = record {
  told = ap Some is;
  later = later;
  changes = changes;
  leaves = λ left may. made-leaves old.log (bytes_state old.bytes).bytes (WriteAt place part) left old.recorded torn
      (rw (noted, is) at may);
  crashes = crashes-made old new (WriteAt place part) noted torn;
}

-- a new length that was done
pub disk-resized : (old new : MemDisk) (n : ℕ) → new.log ≡ logged old.log (Made (SetLen n)) → (disk_state new).bytes ≡ stored (SetLen n)
    (disk_state old).bytes → Unsynced (SetLen n) (disk_state old).bytes (stored (SetLen n) (disk_state old).bytes) →
    (disk_state new).plan.faults ≡ (disk_state old).plan.faults → (disk_state new).failed_changes ≡ (disk_state old).failed_changes →
    Stored disk_means old new (SetLen n)
unfolding disk_state
disk-resized old new n noted is torn later changes = record {
  told = ap Some is;
  later = later;
  changes = changes;
  leaves = λ left may. made-leaves old.log (bytes_state old.bytes).bytes (SetLen n) left old.recorded torn (rw (noted, is) at may);
  crashes = crashes-made old new (SetLen n) noted torn;
}

-- a sync that was done
pub disk-synced : (old new : MemDisk) → new.log ≡ logged old.log (Made Sync) → (disk_state new).bytes ≡ (disk_state old).bytes →
    (disk_state new).plan.faults ≡ (disk_state old).plan.faults → (disk_state new).failed_changes ≡ (disk_state old).failed_changes →
    Stored disk_means old new Sync
unfolding disk_state
disk-synced old new noted is later changes = record {
  told = ap Some is;
  later = later;
  changes = changes;
  leaves = record {
    only = λ bytes left told may.
        let same : (bytes_state new.bytes).bytes ≡ bytes = cc in
        made-rests old.log (bytes_state old.bytes).bytes left old.recorded (rw (noted, is) at may) ∙ sym is ∙ same;
  };
  crashes = crashes-made old new Sync noted refl;
}

-- a call that failed and was recorded
pub disk-broke : (old new : MemDisk) (s : DiskStep) → new.log ≡ logged old.log (Broke s) →
    (disk_state new).bytes ≡ broken s (disk_state old).bytes → Unsynced s (disk_state old).bytes (broken s (disk_state old).bytes) →
    (disk_state old).plan.faults ≤ (disk_state new).plan.faults → Rose (disk_state old).plan.faults (disk_state new).plan.faults →
    ChangesCounted s (disk_state old).failed_changes (disk_state new).failed_changes → Failed disk_means old new s
unfolding disk_state
disk-broke old new s noted is torn later rose changes = record {
  cause = rose;
  later = later;
  changes = changes;
  tells = refl;
  torn = λ left told.
      let same : broken s (bytes_state old.bytes).bytes ≡ left = cc in (
        (bytes_state old.bytes).bytes,
        leave-told old.log (bytes_state old.bytes).bytes old.recorded,
        subst (λ (l : List ℕ). Unsynced s (bytes_state old.bytes).bytes l) same torn,
      );
  leaves = λ left may.
      let same : left ≡ broken s (bytes_state old.bytes).bytes = broke-rests old.log (bytes_state old.bytes).bytes left s old.recorded
      (rw (noted, is) at may) in (
        (bytes_state old.bytes).bytes,
        leave-told old.log (bytes_state old.bytes).bytes old.recorded,
        subst (λ (l : List ℕ). Unsynced s (bytes_state old.bytes).bytes l) (sym same) torn,
      );
  settled = record {
    only = λ bytes left told may.
        let same : (bytes_state new.bytes).bytes ≡ bytes = cc in
        broke-rests old.log (bytes_state old.bytes).bytes left s old.recorded (rw (noted, is) at may) ∙ sym is ∙ same;
  };
  crashes = crashes-broke old new s noted torn;
}

-- a failure that is not recorded
pub disk-refused : (old new : MemDisk) (s : DiskStep) → new.log ≡ settled old.log → (disk_state new).bytes ≡ (disk_state old).bytes →
    Unsynced s (disk_state old).bytes (disk_state old).bytes → (disk_state old).plan.faults ≤ (disk_state new).plan.faults →
    Rose (disk_state old).plan.faults (disk_state new).plan.faults → ChangesCounted s (disk_state old).failed_changes
    (disk_state new).failed_changes → Failed disk_means old new s
unfolding disk_state
disk-refused old new s noted is torn later rose changes = record {
  cause = rose;
  later = later;
  changes = changes;
  tells = refl;
  torn = λ left told.
      let same : (bytes_state old.bytes).bytes ≡ left = cc in (
        (bytes_state old.bytes).bytes,
        leave-told old.log (bytes_state old.bytes).bytes old.recorded,
        subst (λ (l : List ℕ). Unsynced s (bytes_state old.bytes).bytes l) same torn,
      );
  leaves = λ left may.
      let same : left ≡ (bytes_state old.bytes).bytes = settled-rests old.log (bytes_state old.bytes).bytes left old.recorded
      (rw (noted, is) at may) in (
        (bytes_state old.bytes).bytes,
        leave-told old.log (bytes_state old.bytes).bytes old.recorded,
        subst (λ (l : List ℕ). Unsynced s (bytes_state old.bytes).bytes l) (sym same) torn,
      );
  settled = record {
    only = λ bytes left told may.
        let same : (bytes_state new.bytes).bytes ≡ bytes = cc in
        settled-rests old.log (bytes_state old.bytes).bytes left old.recorded (rw (noted, is) at may) ∙ sym is ∙ same;
  };
  crashes = crashes-settled old new s noted;
}
