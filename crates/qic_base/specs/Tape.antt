-- A tape: the cartridge that it holds, its size as told, how often it failed, and what a stop may have left; and what a
-- call did to it (this project's profile). Each object of the outside counts its own faults.
use Rattle.std.specs.Prelude.{ℕ, ◌+◌, ◌-◌, ◌^◌, ◌≤◌, min, ◌≡◌, ◌⊎◌, Bool, true, false, List, Option, Some, is_some}
use Rattle.std.specs.Option.{option_map}
use Rattle.qic_base.specs.declared.tape.SectorView.{SectorView}
use Rattle.qic_base.specs.declared.tape.SectorView.TheVariants.{Blank, Defect}
use Rattle.qic_base.specs.Cartridge.{Cartridge}
use Rattle.qic_base.specs.Step.{Step, effects, Torn}

-- The count of faults rose by one, or stands at the greatest u64, where it can rise no more (this project's profile).
abbrev pub Rose : ℕ → ℕ → Type 0
Rose before now = now ≡ min (before + 1) (2 ^ 64 - 1)

-- All that a tape means to the code above it.
pub record Meaning (S : Type 0) : Type 1 where
  -- None: the tape doesn't tell its cartridge; Some None: there is no cartridge
  pub told : S → Option (Option Cartridge)
  -- the segments per track that the last `info` that succeeded, or the last `renew`, told: none where that was no
  -- cartridge or a `renew` that failed, where an `upgrade` failed since, and none at first
  pub size : S → Option ℕ
  pub faults : S → ℕ
  -- whether the call that was made last failed; where it was carried out nothing is meant by this
  pub failed_last : S → Bool
  -- whether the tape tells what a stop leaves
  pub tells_stops : S → Bool
  -- a clock, which never falls
  pub moment : S → ℕ
  -- a stop from this moment on, up to now, might have left this; it means nothing where the tape doesn't tell its stops
  pub left_since : S → ℕ → Option Cartridge → Type 0

-- From old on time went by, and each stop since then, inside these steps or between them, left what their fronts leave.
pub record Stops {S : Type 0} (m : Meaning S) (old new : S) (steps : List Step) : Type 0 where
  pub telling : m.tells_stops new ≡ m.tells_stops old
  pub clock : m.moment old ≤ m.moment new
  pub kept : (t : ℕ) (left : Option Cartridge) → t ≤ m.moment old → m.left_since old t left → m.left_since new t left
  -- a stop since t was one before this, or is one since any later moment that came before this
  pub parted : (t u : ℕ) (left : Option Cartridge) → t ≤ u → u ≤ m.moment old →
      m.left_since new t left → m.left_since old t left ⊎ m.left_since new u left
  pub since : (t : ℕ) (held left : Option Cartridge) → m.told old ≡ Some held → t ≤ m.moment old →
      m.left_since new t left → m.left_since old t left ⊎ Torn steps held left

-- From old on, the steps were done, all of them, and nothing else; no call failed.
pub record Done {S : Type 0} (m : Meaning S) (old new : S) (steps : List Step) : Type 0 where
  pub told : m.told new ≡ option_map (effects steps) (m.told old)
  pub later : m.faults new ≡ m.faults old
  pub stops : Stops m old new steps

-- From old on, one fault of the tape broke the steps off: what stands then is what a stop before, inside or after one
-- of them leaves. No call was carried out behind that fault.
pub record Broke {S : Type 0} (m : Meaning S) (old new : S) (steps : List Step) : Type 0 where
  pub cause : Rose (m.faults old) (m.faults new)
  pub later : m.faults old ≤ m.faults new
  pub last : m.failed_last new ≡ true
  pub tells : is_some (m.told new) ≡ is_some (m.told old)
  pub torn : (held left : Option Cartridge) → m.told old ≡ Some held → m.told new ≡ Some left → Torn steps held left
  pub stops : Stops m old new steps

-- Whether a sector with this view is a defect after it was spoiled.
abbrev pub spoil_answer : SectorView → Bool
spoil_answer Blank = true
spoil_answer Defect = true
spoil_answer view = false
