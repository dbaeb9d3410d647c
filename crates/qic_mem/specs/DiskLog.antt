-- The calls that a disk in memory recorded, with their steps and how they ended, and what a crash leaves by them (this
-- project's profile).
use Rattle.std.specs.Prelude.{◌≡◌, ◌⊎◌, ℕ, ◌+◌, ◌-◌, ◌/◌, ◌≤◌, Bool, true, false, ◌||◌, List, [], ◌∷◌, length, take, Option, Some, None}
use Rattle.std.specs.Prelude.{◌==◌, nat_lt, if◌then◌else◌}
use Rattle.qic_base.specs.Disk.{DiskStep, WriteAt, Sync, stored, Unsynced}

-- what a chosen failing call leaves: of a write the first half of its bytes is written; any other leaves all as it was
abbrev pub broken : DiskStep → List ℕ → List ℕ
broken (WriteAt place part) bytes = stored (WriteAt place (take (length part / 2) part)) bytes
broken s bytes = bytes

-- a call that was done; one that failed; or a failure that is not recorded, behind which nothing is pending
pub data DiskEvent : Type 0 where
  Made : DiskStep → DiskEvent
  Broke : DiskStep → DiskEvent
  Settled : DiskEvent

-- ---- what a crash leaves

-- The bytes that a read gives; those that it gave when last nothing was pending; and the steps since then, the last of them
-- first.
pub record DiskPoint : Type 0 where
  pub told : List ℕ
  pub base : List ℕ
  pub pending : List DiskStep

-- nothing is pending
abbrev pub at_rest : List ℕ → DiskPoint
at_rest bytes = record { told = bytes; base = bytes; pending = [] }

abbrev pub after_made : DiskStep → DiskPoint → DiskPoint
after_made Sync p = at_rest p.told
after_made s p = record { told = stored s p.told; base = p.base; pending = s ∷ p.pending }

abbrev pub after_event : DiskEvent → DiskPoint → DiskPoint
after_event (Made s) p = after_made s p
after_event (Broke s) p = at_rest (broken s p.told)
after_event Settled p = at_rest p.told

-- behind these events, the last of them first; before the first the disk is empty
abbrev pub point_of : List DiskEvent → DiskPoint
point_of [] = at_rest []
point_of (event ∷ events) = after_event event (point_of events)

-- each pending step left its range torn, over what the steps before it left
abbrev pub LeftTorn : List DiskStep → (base left : List ℕ) → Type 0
LeftTorn [] base left = left ≡ base
LeftTorn (s ∷ steps) base left = (before : List ℕ) × LeftTorn steps base before × Unsynced s before left

-- a crash leaves what a read gives, or each pending step torn
abbrev pub MayLeave : DiskPoint → List ℕ → Type 0
MayLeave p left = (left ≡ p.told) ⊎ LeftTorn p.pending p.base left

-- a crash inside a step
abbrev pub LeftInside : DiskPoint → DiskStep → List ℕ → Type 0
LeftInside p s left = (before : List ℕ) × MayLeave p before × Unsynced s before left

-- a crash while an event comes
abbrev pub LeftDuring : DiskPoint → DiskEvent → List ℕ → Type 0
LeftDuring p (Made s) left = LeftInside p s left
LeftDuring p (Broke s) left = LeftInside p s left
LeftDuring p Settled left = MayLeave p left

-- a crash since t of the events came: before the last of them, while it came, or behind it
abbrev pub LeftSince : List DiskEvent → ℕ → List ℕ → Type 0
LeftSince [] t left = (t ≤ 0) × MayLeave (point_of []) left
LeftSince (event ∷ events) t left =
    LeftSince events t left
    ⊎ ((t ≤ length events) × LeftDuring (point_of events) event left)
    ⊎ ((t ≤ length events + 1) × MayLeave (point_of (event ∷ events)) left)

-- ---- the record

-- The events so far, the last of them first, and for how many more calls and bytes there is room.
pub record DiskLog : Type 0 where
  pub events : List DiskEvent
  pub calls_left : ℕ
  pub bytes_left : ℕ

abbrev pub new_log : ℕ → ℕ → DiskLog
new_log calls bytes = record { events = []; calls_left = calls; bytes_left = bytes }

-- the bytes that a recorded call takes of the room
abbrev pub step_size : DiskStep → ℕ
step_size (WriteAt place part) = length part
step_size s = 0

abbrev pub event_size : DiskEvent → ℕ
event_size (Made s) = step_size s
event_size (Broke s) = step_size s
event_size Settled = 0

-- there is a record, and no room in it for one more call with this many bytes
abbrev pub is_full : Option DiskLog → ℕ → Bool
is_full None count = false
is_full (Some l) count = (l.calls_left == 0) || nat_lt l.bytes_left count

-- one more call, for which there is room
abbrev pub logged : Option DiskLog → DiskEvent → Option DiskLog
logged None event = None
logged (Some l) event = Some (record {
  events = event ∷ l.events;
  calls_left = l.calls_left - 1;
  bytes_left =
      l.bytes_left - event_size event;
})

abbrev pub has_steps : List DiskStep → Bool
has_steps [] = false
has_steps (s ∷ steps) = true

abbrev pub is_pending : DiskPoint → Bool
is_pending p = has_steps p.pending

-- a failure that is not recorded, where something was pending
abbrev pub settled : Option DiskLog → Option DiskLog
settled None = None
settled (Some l) = Some (if is_pending (point_of l.events) then record l { events = Settled ∷ l.events } else l)

-- ---- a disk with a record or with none, by the bytes that a read gives

abbrev pub moment_of : Option DiskLog → ℕ
moment_of None = 0
moment_of (Some l) = length l.events

-- without a record a crash leaves just what a read gives
abbrev pub may_leave_of : Option DiskLog → List ℕ → List ℕ → Type 0
may_leave_of None told left = left ≡ told
may_leave_of (Some l) told left = MayLeave (point_of l.events) left

-- .. and of earlier moments nothing is meant
abbrev pub left_of : Option DiskLog → ℕ → List ℕ → Type 0
left_of None t left = Unit {0}
left_of (Some l) t left = LeftSince l.events t left
