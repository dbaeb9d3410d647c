-- A segment that was written, of which sectors may be lost or silently hold other bytes, as far as a deep scrub makes it whole
-- (QIC-80-MC: two code blocks differ in at least four sectors).
use Rattle.std.specs.Prelude.{◌≡◌, ◌≢◌, ◌⊎◌, ◌+◌, ◌<◌, ◌≤◌, ℕ, All, Contains, List, Some, length, slice_get, slice_index, true}
use Rattle.cartridge_spec.specs.Says.{Data, Written, unreadable_count, with_parity}
use Rattle.cartridge_spec.specs.Shape.{IsLive, mask_at, sector_at, usable_count, usable_places}
use Rattle.cartridge_laws.specs.Segment.{IsUnreadable}
use Rattle.cartridge_spec.specs.Volumes.{Part}
use Rattle.command_laws.specs.ScrubTerms.{Finds}
use Rattle.command_spec.specs.Scrub.{Finding, Looked, cells_at, reads}
use Rattle.command_spec.specs.declared.depth.Depth.TheVariants.{Deep}
use Rattle.qic_base.specs.Cartridge.{Cartridge, IsSector, view_at}
use Rattle.qic_base.specs.declared.tape.SectorView.TheVariants.{Holds}

-- Each usable sector that can be read holds its own of these data and their parity, but for the one at this place, whatever that
-- holds; and at most one can't be read.
pub record HoldsAllButOne (c : Cartridge) (looked : Looked) (sectors : List (List ℕ)) : Type 0 where
  pub place : ℕ
  pub within : place < usable_count looked.mask
  pub others : (i : ℕ) (bytes : List ℕ) → i ≢ place → slice_get (cells_at c looked) i ≡ Some (Holds bytes) →
      slice_get (with_parity sectors) i ≡ Some bytes
  pub few : unreadable_count (cells_at c looked) ≤ 1

-- Each one that can be read holds its own, and at most three can't be read; or that is so of all but one, and at most one can't be
-- read, in a segment other than the table's.
abbrev pub HoldsEnough : Cartridge → Looked → (sectors : List (List ℕ)) → Type 0
HoldsEnough c looked sectors =
    (Written (cells_at c looked) sectors × (unreadable_count (cells_at c looked) ≤ 3))
    ⊎ ((looked.segment ≢ 2) × HoldsAllButOne c looked sectors)

-- these data are as many as the segment holds, and it reads with them
pub record AreDataOf (looked : Looked) (sectors : List (List ℕ)) : Type 0 where
  pub are : All IsSector sectors
  pub some : 1 ≤ length sectors
  pub size : length sectors + 3 ≡ usable_count looked.mask
  pub can_be_read : reads looked (Data sectors) ≡ true

-- a segment that was written with these data, and is so
pub record IsMendable (c : Cartridge) (looked : Looked) (sectors : List (List ℕ)) : Type 0 where
  pub data_of : AreDataOf looked sectors
  pub holds : HoldsEnough c looked sectors

-- each usable sector that took what is written to it holds its own of these data and their parity, and so does each that can be read
pub record IsMadeWhole (c d : Cartridge) (looked : Looked) (sectors : List (List ℕ)) : Type 0 where
  pub live : (place : ℕ) → place < usable_count looked.mask →
      IsLive (view_at c looked.segment (slice_index (usable_places looked.mask) place)) →
      view_at d looked.segment (slice_index (usable_places looked.mask) place) ≡ Holds (sector_at (with_parity sectors) place)
  pub written : Written (cells_at d looked) sectors

-- the segment of a part of a volume, with its word of the map
abbrev pub segment_of : (words : List ℕ) → Part → Looked
segment_of words part = record { segment = part.segment; mask = mask_at words part.segment }

-- A sector that was put right: of a segment that is looked at, and was found to say these data, one that could not be read, or was
-- found to be wrong; it holds its own of them and their parity.
pub record IsPutRight (looked : List Looked) (c d : Cartridge) (segment sector : ℕ) : Type 0 where
  pub at : Looked
  pub among : Contains looked at
  pub here : at.segment ≡ segment
  pub finding : Finding
  pub finds : Finds Deep c at finding
  pub sectors : List (List ℕ)
  pub says : finding.saying ≡ Data sectors
  pub place : ℕ
  pub within : place < usable_count at.mask
  pub index : slice_index (usable_places at.mask) place ≡ sector
  pub was : IsUnreadable (view_at c segment sector) ⊎ (finding.wrong ≡ Some sector)
  pub is : view_at d segment sector ≡ Holds (sector_at (with_parity sectors) place)
