-- What a disk in memory shows: its bytes, its seen length, its room in bytes, its chosen failures, the count of its failed
-- changes, and the calls that it recorded (this project's profile).
use Rattle.std.specs.Prelude.{◌≡◌, ◌⊎◌, ℕ, Bool, false, ◌||◌, List, length, Option, Some, is_some, IsTrue, nat_lt, if◌then◌else◌}
use Rattle.std.proofs.Common.{refl, ◌∙◌}
use Rattle.qic_base.specs.Disk.{Meaning, DiskStep, SetLen, stored, IsToldRight, IsLeftNow}
use Rattle.qic_mem.specs.declared.disk.MemDisk.{MemDisk}
use Rattle.qic_mem.specs.DiskLog.{DiskLog, Made, Broke, broken, is_full, step_size, logged, settled, moment_of, may_leave_of, left_of}
use Rattle.qic_mem.specs.DiskLogLaws.{leave-told, leave-untold, left-counts, left-only, left-earlier}
use Rattle.qic_mem.specs.Plan.{Plan, IsChosen, counted, plan_after}
use Rattle.qic_mem.specs.DiskBytes.{bytes_state, disk_bytes-bytes, disk_bytes-seen}

pub record DiskState : Type 0 where
  pub bytes : List ℕ
  pub seen : ℕ
  pub room : ℕ
  pub plan : Plan
  -- how many of the faults were writes, new lengths and syncs
  pub failed_changes : ℕ
  -- None: it keeps no record
  pub log : Option DiskLog

unfoldable pub disk_state : MemDisk → DiskState
disk_state d = record {
  bytes = (bytes_state d.bytes).bytes;
  seen = (bytes_state d.bytes).seen;
  room = (bytes_state d.bytes).room;
  plan = d.plan;
  failed_changes = d.failed_changes;
  log = d.log;
}

-- it tells its bytes, and where it keeps a record what a crash leaves
abbrev pub disk_means : Meaning MemDisk
disk_means = record {
  told = λ d. Some (disk_state d).bytes;
  seen_len = λ d. (disk_state d).seen;
  faults = λ d. (disk_state d).plan.faults;
  failed_changes = λ d. (disk_state d).failed_changes;
  tells_stops = λ d. is_some (disk_state d).log;
  may_leave = λ d left. may_leave_of (disk_state d).log (disk_state d).bytes left;
  moment = λ d. moment_of (disk_state d).log;
  left_since = λ d moment left. left_of (disk_state d).log moment left;
}

-- the record has no room for the step
abbrev pub is_unrecorded : DiskState → DiskStep → Bool
is_unrecorded s step = is_full s.log (step_size step)

-- the length is past the room
abbrev pub is_past : DiskState → DiskStep → Bool
is_past s (SetLen n) = nat_lt s.room n
is_past s step = false

-- a call that changes the disk fails exactly at its chosen numbers, past the room of the record, and past the room
abbrev pub Fails : DiskState → DiskStep → Type 0
Fails s step = IsChosen s.plan ⊎ IsTrue (is_unrecorded s step || is_past s step)

-- the seen length after such a call
abbrev pub seen_after : DiskStep → Bool → ℕ → ℕ
seen_after (SetLen n) failed seen = if failed then 0 else n
seen_after step failed seen = seen

-- After a call with this step, which failed or not. One that is not recorded leaves all as it was, and nothing pending.
abbrev pub after_call : DiskState → DiskStep → Bool → DiskState
after_call s step failed = record s {
  bytes = if failed then (if is_unrecorded s step then s.bytes else broken step s.bytes) else stored step s.bytes;
  seen = seen_after step failed s.seen;
  plan = plan_after s.plan failed;
  failed_changes = counted s.failed_changes failed;
  log = if failed then (if is_unrecorded s step then settled s.log else logged s.log (Broke step)) else logged s.log (Made step);
}

-- after a read of bytes: a failure leaves nothing pending
abbrev pub after_read : DiskState → Bool → DiskState
after_read s failed = record s { plan = plan_after s.plan failed; log = if failed then settled s.log else s.log }

-- after a call that told the length, or that failed and told nothing
abbrev pub after_len : DiskState → Bool → DiskState
after_len s failed = record (after_read s failed) { seen = if failed then s.seen else length s.bytes }

-- the laws of a disk
pub disk-told_right : (d : MemDisk) → IsToldRight disk_means d
unfolding disk_state
disk-told_right d = record {
  bytes = λ bytes told. let same : (bytes_state d.bytes).bytes ≡ bytes = cc in rw (← same) (disk_bytes-bytes d.bytes);
  seen = λ bytes told. let same : (bytes_state d.bytes).bytes ≡ bytes = cc in rw (← same) (disk_bytes-seen d.bytes);
  may_leave = λ bytes told. let same : (bytes_state d.bytes).bytes ≡ bytes = cc in
      rw (← same) (leave-told d.log (bytes_state d.bytes).bytes d.recorded);
  untold = λ untold. record {
    only = λ bytes left told may. let same : (bytes_state d.bytes).bytes ≡ bytes = cc in
        leave-untold d.log (bytes_state d.bytes).bytes left untold may ∙ same;
  };
}

pub disk-left_now : (d : MemDisk) → IsLeftNow disk_means d
unfolding disk_state
disk-left_now d = record {
  telling = λ telling. refl;
  counts = λ t left telling early may. left-counts d.log (bytes_state d.bytes).bytes t left early may;
  only = λ left telling was. left-only d.log (bytes_state d.bytes).bytes left telling was;
  earlier = λ t u left order early was. left-earlier d.log t u left order was;
}
