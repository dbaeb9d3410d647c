-- A disk: its bytes, the length that it was seen to have, how often it failed, and what a crash may have left; and what
-- a call did to it (this project's profile).
use Rattle.std.specs.Prelude.{◌≡◌, ℕ, ◌+◌, ◌-◌, ◌<◌, ◌≤◌, ◌++◌, ◌⊎◌, Bool, true, false, List, length, take, replicate, All, Option, Some}
use Rattle.std.specs.Prelude.{is_some, IsSome, Result, Ok, Err, slice_get}
use Rattle.std.specs.Option.{option_map}
use Rattle.qic_base.specs.Tape.{Rose}
use Rattle.qic_base.specs.Field.{overwritten}

-- what a call does to the bytes, as data; a call that only looks, and a sync, change none
pub data DiskStep : Type 0 where
  Look : DiskStep
  WriteAt : ℕ → List ℕ → DiskStep
  SetLen : ℕ → DiskStep
  Sync : DiskStep

-- the bytes below both lengths stay, and new bytes are zero
abbrev pub resized : ℕ → List ℕ → List ℕ
resized n bytes = take n bytes ++ replicate (n - length bytes) 0

-- the bytes that a read gives after a step
abbrev pub stored : DiskStep → List ℕ → List ℕ
stored Look bytes = bytes
stored (WriteAt place part) bytes = overwritten bytes place part
stored (SetLen n) bytes = resized n bytes
stored Sync bytes = bytes

abbrev pub AreBytes : List ℕ → Type 0
AreBytes bytes = All (λ b. b < 256) bytes

-- a written range that was not synced: any bytes in it, and the others as they were
pub record TornRange (place count : ℕ) (old new : List ℕ) : Type 0 where
  pub size : length new ≡ length old
  pub bytes : AreBytes new
  pub below : (k : ℕ) → k < place → slice_get new k ≡ slice_get old k
  pub above : (k : ℕ) → place + count ≤ k → slice_get new k ≡ slice_get old k

-- a new length that was not synced: any bytes past the old end, and the others as they were
pub record TornLength (n : ℕ) (old new : List ℕ) : Type 0 where
  pub size : length new ≡ n
  pub bytes : AreBytes new
  pub kept : (k : ℕ) → k < n → k < length old → slice_get new k ≡ slice_get old k

-- What a crash inside a step, or after it and before the next sync, leaves where one before the step left the old bytes.
abbrev pub Unsynced : DiskStep → (old new : List ℕ) → Type 0
Unsynced Look old new = new ≡ old
Unsynced (WriteAt place part) old new = TornRange place (length part) old new
Unsynced (SetLen n) old new = (new ≡ old) ⊎ TornLength n old new
Unsynced Sync old new = new ≡ old

-- All that a disk means to the code above it.
pub record Meaning (D : Type 0) : Type 1 where
  -- the bytes that a read gives; None where the disk doesn't tell them
  pub told : D → Option (List ℕ)
  -- The length that the last `len` or `set_len` that succeeded told; 0 after a `set_len` that failed, and at first.
  pub seen_len : D → ℕ
  pub faults : D → ℕ
  -- those of them that were no looks: writes, new lengths and syncs that failed
  pub failed_changes : D → ℕ
  -- whether the disk tells what a crash leaves
  pub tells_stops : D → Bool
  -- a crash now may leave these bytes; nothing is meant where the disk doesn't tell its bytes
  pub may_leave : D → List ℕ → Type 0
  -- a clock, which never falls
  pub moment : D → ℕ
  -- A crash at some moment from this one on, up to now, might have left these bytes. Where the disk doesn't tell its
  -- crashes nothing is meant by it.
  pub left_since : D → ℕ → List ℕ → Type 0

-- a crash inside a step, or after it and before the next sync, leaves these bytes
abbrev pub Inside : {D : Type 0} (m : Meaning D) (old : D) (step : DiskStep) (left : List ℕ) → Type 0
Inside m old step left = (before : List ℕ) × m.may_leave old before × Unsynced step before left

-- nothing is pending: a crash now leaves what a read gives
pub record IsSettled {D : Type 0} (m : Meaning D) (disk : D) : Type 0 where
  pub only : (bytes left : List ℕ) → m.told disk ≡ Some bytes → m.may_leave disk left → left ≡ bytes

-- From old on time went by, and each crash since then left what one inside the step leaves.
pub record Crashes {D : Type 0} (m : Meaning D) (old new : D) (step : DiskStep) : Type 0 where
  pub telling : m.tells_stops new ≡ m.tells_stops old
  pub clock : m.moment old ≤ m.moment new
  pub kept : (t : ℕ) (left : List ℕ) → t ≤ m.moment old → m.left_since old t left → m.left_since new t left
  -- a crash since t was one before this, or is one since any later moment that came before this
  pub parted : (t u : ℕ) (left : List ℕ) → t ≤ u → u ≤ m.moment old → m.left_since new t left → m.left_since old t left
      ⊎ m.left_since new u left
  pub since : (t : ℕ) (left : List ℕ) → t ≤ m.moment old → m.left_since new t left → m.left_since old t left ⊎ Inside m old step left

-- what a crash may leave after a step that succeeded: after a sync just what a read gives
abbrev pub Leaves : {D : Type 0} (m : Meaning D) (old new : D) → DiskStep → Type 0
Leaves m old new Look = (left : List ℕ) → m.may_leave new left → Inside m old Look left
Leaves m old new (WriteAt place part) = (left : List ℕ) → m.may_leave new left → Inside m old (WriteAt place part) left
Leaves m old new (SetLen n) = (left : List ℕ) → m.may_leave new left → Inside m old (SetLen n) left
Leaves m old new Sync = IsSettled m new

-- From old on the step was done, and nothing else; no call failed.
pub record Stored {D : Type 0} (m : Meaning D) (old new : D) (step : DiskStep) : Type 0 where
  pub told : m.told new ≡ option_map (stored step) (m.told old)
  pub later : m.faults new ≡ m.faults old
  pub changes : m.failed_changes new ≡ m.failed_changes old
  pub leaves : Leaves m old new step
  pub crashes : Crashes m old new step

-- whether a step that failed counts as a failed change: a look doesn't
abbrev pub ChangesCounted : DiskStep → (before now : ℕ) → Type 0
ChangesCounted Look before now = now ≡ before
ChangesCounted step before now = Rose before now

-- From old on one fault of the disk broke the step off: the disk is as after a crash inside the step. What a read gives
-- then, and what a crash then leaves, is what one inside the step leaves; and nothing is pending. So a step that only
-- looks leaves the bytes as they were where nothing was pending, and else what a crash then may leave.
pub record Failed {D : Type 0} (m : Meaning D) (old new : D) (step : DiskStep) : Type 0 where
  pub cause : Rose (m.faults old) (m.faults new)
  pub later : m.faults old ≤ m.faults new
  pub changes : ChangesCounted step (m.failed_changes old) (m.failed_changes new)
  pub tells : is_some (m.told new) ≡ is_some (m.told old)
  pub torn : (left : List ℕ) → m.told new ≡ Some left → Inside m old step left
  pub leaves : (left : List ℕ) → m.may_leave new left → Inside m old step left
  pub settled : IsSettled m new
  pub crashes : Crashes m old new step

-- What a call with this step did, by its answer.
abbrev pub Stores : {D T E : Type 0} (m : Meaning D) (old new : D) (step : DiskStep) (result : Result T E) → Type 0
Stores m old new step (Ok x) = Stored m old new step
Stores m old new step (Err e) = Failed m old new step

-- Told bytes are bytes, at least as many as were seen, so a failure of another call than `set_len` takes back no length
-- that was seen; and a crash now may leave them. It leaves nothing else where the disk doesn't tell its crashes: such a
-- disk loses nothing that it took.
pub record IsToldRight {D : Type 0} (m : Meaning D) (disk : D) : Type 0 where
  pub bytes : (bytes : List ℕ) → m.told disk ≡ Some bytes → AreBytes bytes
  pub seen : (bytes : List ℕ) → m.told disk ≡ Some bytes → m.seen_len disk ≤ length bytes
  pub may_leave : (bytes : List ℕ) → m.told disk ≡ Some bytes → m.may_leave disk bytes
  pub untold : m.tells_stops disk ≡ false → IsSettled m disk

-- A disk that tells its crashes tells its bytes; what a crash now may leave is what one since now might have left, and
-- among what one since an earlier moment might have left, as is what one since a later moment might have left.
pub record IsLeftNow {D : Type 0} (m : Meaning D) (disk : D) : Type 0 where
  pub telling : m.tells_stops disk ≡ true → IsSome (m.told disk)
  pub counts : (t : ℕ) (left : List ℕ) → m.tells_stops disk ≡ true → t ≤ m.moment disk → m.may_leave disk left → m.left_since disk t left
  pub only : (left : List ℕ) → m.tells_stops disk ≡ true → m.left_since disk (m.moment disk) left → m.may_leave disk left
  pub earlier : (t u : ℕ) (left : List ℕ) → t ≤ u → u ≤ m.moment disk → m.left_since disk u left → m.left_since disk t left
