-- What a call of a tape does to the disk under it: looks, and then steps in order.
use Rattle.std.specs.Prelude.{◌≡◌, ℕ, ◌≤◌, ◌⊎◌, List, [], ◌∷◌, Option, Some, IfSome, Result, Ok, Err}
use Rattle.cart_image.specs.declared.layout.Layout.{Layout}
use Rattle.qic_base.specs.Disk.{Meaning, DiskStep, Look, WriteAt, SetLen, Sync, stored, Unsynced, Stored, Failed}

-- From old on the disk was only looked at.
pub record Looks {D : Type 0} (m : Meaning D) (old new : D) : Type 0 where
  pub told : m.told new ≡ m.told old
  -- a look among them may have failed
  pub later : m.faults old ≤ m.faults new
  pub changes : m.failed_changes new ≡ m.failed_changes old
  pub leaves : (left : List ℕ) → m.may_leave new left → m.may_leave old left
  pub telling : m.tells_stops new ≡ m.tells_stops old
  pub clock : m.moment old ≤ m.moment new
  pub kept : (t : ℕ) (left : List ℕ) → t ≤ m.moment old → m.left_since old t left → m.left_since new t left
  pub parted : (t u : ℕ) (left : List ℕ) → t ≤ u → u ≤ m.moment old → m.left_since new t left → m.left_since old t left
      ⊎ m.left_since new u left
  pub since : (t : ℕ) (left : List ℕ) → t ≤ m.moment old → m.left_since new t left → m.left_since old t left ⊎ m.may_leave old left

-- the steps were done, one after the other, and nothing else
abbrev pub Ran : {D : Type 0} (m : Meaning D) (old new : D) → List DiskStep → Type 0
Ran m old new [] = new ≡ old
Ran {D = D} m old new (step ∷ steps) = (mid : D) × Stored m old mid step × Ran m mid new steps

-- a front of the steps was done, and the next one failed
abbrev pub Halted : {D : Type 0} (m : Meaning D) (old new : D) → List DiskStep → Type 0
Halted m old new [] = ⊥
Halted {D = D} m old new (step ∷ steps) = Failed m old new step ⊎ ((mid : D) × Stored m old mid step × Halted m mid new steps)

-- the steps were done, or a front of them was and the next one failed
abbrev pub Runs : {D T E : Type 0} (m : Meaning D) (old new : D) → List DiskStep → Result T E → Type 0
Runs m old new steps (Ok x) = Ran m old new steps
Runs m old new steps (Err e) = Halted m old new steps

-- the disk was only looked at, and it failed at the last look where the answer is an error
abbrev pub Looked : {D T E : Type 0} (m : Meaning D) (old new : D) → Result T E → Type 0
Looked m old new (Ok x) = Looks m old new
Looked {D = D} m old new (Err e) = (mid : D) × Looks m old mid × Failed m mid new Look

-- the disk was looked at, and then the steps were run; a look may have failed
abbrev pub Went : {D T E : Type 0} (m : Meaning D) (old new : D) → List DiskStep → Result T E → Type 0
Went {D = D} m old new steps (Ok x) = (mid : D) × Looks m old mid × Ran m mid new steps
Went {D = D} m old new steps (Err e) = (mid : D) × Looks m old mid × (Failed m mid new Look ⊎ Halted m mid new steps)

-- .. and where the disk tells its bytes, the steps are those of the plan
pub record Carried {D T E : Type 0} (m : Meaning D) (old new : D) (plan : List ℕ → List DiskStep) (result : Result T E) : Type 0 where
  pub steps : List DiskStep
  pub planned : (bytes : List ℕ) → m.told old ≡ Some bytes → steps ≡ plan bytes
  pub went : Went m old new steps result

-- .. where the plan is by the layout
abbrev pub CarriedBy : {D T E : Type 0} (m : Meaning D) (old new : D) (layout : Option Layout) (plan : Layout → List ℕ → List DiskStep)
    (result : Result T E) → Type 0
CarriedBy m old new layout plan result = IfSome layout (λ l. Carried m old new (plan l) result)

-- the steps were run; where the disk tells its bytes, they are those of the plan
pub record Planned {D T E : Type 0} (m : Meaning D) (old new : D) (plan : List ℕ → List DiskStep) (result : Result T E) : Type 0 where
  pub steps : List DiskStep
  pub planned : (bytes : List ℕ) → m.told old ≡ Some bytes → steps ≡ plan bytes
  pub runs : Runs m old new steps result

-- the bytes after the steps
abbrev pub after_steps : List DiskStep → List ℕ → List ℕ
after_steps [] bytes = bytes
after_steps (step ∷ steps) bytes = after_steps steps (stored step bytes)

-- what a crash may leave after a step that was done, where it might leave this before
abbrev pub Pending : DiskStep → (bytes : List ℕ) → (List ℕ → Type 0) → List ℕ → Type 0
Pending Look bytes may left = may left
Pending (WriteAt place part) bytes may left = (before : List ℕ) × may before × Unsynced (WriteAt place part) before left
Pending (SetLen n) bytes may left = (before : List ℕ) × may before × Unsynced (SetLen n) before left
Pending Sync bytes may left = left ≡ bytes

-- what a crash inside the steps leaves, where one before them might leave this and a read gave these bytes
abbrev pub Crashed : (may : List ℕ → Type 0) (bytes : List ℕ) → List DiskStep → List ℕ → Type 0
Crashed may bytes [] left = ⊥
Crashed may bytes (step ∷ steps) left =
    ((before : List ℕ) × may before × Unsynced step before left) ⊎ Crashed (Pending step bytes may) (stored step bytes) steps left
