-- A cartridge on which sectors can be read and silently hold other bytes than what was written, as far as a deep scrub finds
-- them (this project's profile).
use Rattle.std.specs.Prelude.{◌≡◌, ◌≢◌, ◌⊎◌, ℕ, ◌<◌, ◌≤◌, List, Contains, slice_index}
use Rattle.cartridge_spec.specs.HeaderCopies.{copy_cells}
use Rattle.cartridge_spec.specs.Says.{Written, unreadable_count}
use Rattle.cartridge_spec.specs.Shape.{usable_places, usable_count}
use Rattle.cartridge_spec.specs.Volumes.{Plain, entries_of}
use Rattle.command_spec.specs.Scrub.{Looked, cells_at, looked_at}
use Rattle.qic_base.specs.Cartridge.{Cartridge, view_at}
use Rattle.qic_base.specs.declared.tape.SectorView.TheVariants.{Holds}

-- a segment is on one cartridge as it is on another
abbrev pub IsSameIn : (k c : Cartridge) (segment : ℕ) → Type 0
IsSameIn k c segment = (i : ℕ) → i < 32 → view_at c segment i ≡ view_at k segment i

-- One usable sector of a segment holds other bytes, and all others are the same; at most one usable sector can't be read.
pub record HasOneSilent (k c : Cartridge) (looked : Looked) : Type 0 where
  pub place : ℕ
  pub within : place < usable_count looked.mask
  pub sector : ℕ
  pub index : slice_index (usable_places looked.mask) place ≡ sector
  pub right : List ℕ
  pub was : view_at k looked.segment sector ≡ Holds right
  pub wrong : List ℕ
  pub is : view_at c looked.segment sector ≡ Holds wrong
  pub differs : wrong ≢ right
  pub others : (i : ℕ) → i < 32 → i ≢ sector → view_at c looked.segment i ≡ view_at k looked.segment i
  pub few : unreadable_count (cells_at c looked) ≤ 1

-- a segment is the same, or it is one that is looked at, but for the table's, and has one such sector
pub record IsSilentIn (k c : Cartridge) (plain : Plain) (segment : ℕ) : Type 0 where
  pub at : Looked
  pub among : Contains (looked_at plain.words (entries_of plain)) at
  pub here : at.segment ≡ segment
  pub not_table : segment ≢ 2
  pub one : HasOneSilent k c at

-- the header can be had of one copy: of the first, or of the second, where at most one sector of the first can't be read
abbrev pub HasCopy : (k c : Cartridge) → Plain → Type 0
HasCopy k c plain =
    (IsSameIn k c 0 × (unreadable_count (copy_cells c 0) ≤ 3))
    ⊎ (IsSameIn k c 1 × Written (copy_cells k 1) plain.header_area × (unreadable_count (copy_cells c 1) ≤ 3)
    × (unreadable_count (copy_cells c 0) ≤ 1))

-- a cartridge differs in such sectors alone from one that stands for a plain one, and of which the first header copy was written
pub record DiffersSilently (k c : Cartridge) (plain : Plain) : Type 0 where
  pub info : c.info ≡ k.info
  pub each : (segment : ℕ) → IsSameIn k c segment ⊎ IsSilentIn k c plain segment
  pub first : Written (copy_cells k 0) plain.header_area
  pub copy : HasCopy k c plain
