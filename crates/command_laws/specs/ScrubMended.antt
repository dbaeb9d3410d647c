-- A cartridge while it is scrubbed, and behind that (this project's profile).
use Rattle.std.specs.Prelude.{◌≡◌, ℕ, ◌<◌, true, List, Contains, slice_index, ◌⊎◌}
use Rattle.cartridge_laws.specs.Segment.{IsUnreadable}
use Rattle.cartridge_spec.specs.Says.{Data, Says, with_parity}
use Rattle.cartridge_spec.specs.Shape.{sector_at, usable_places, usable_count}
use Rattle.command_spec.specs.Scrub.{Looked, cells_at, reads}
use Rattle.qic_base.specs.Cartridge.{Cartridge, view_at}
use Rattle.qic_base.specs.Step.{written_view}
use Rattle.qic_base.specs.declared.tape.SectorView.TheVariants.{Lost, Holds}

-- a usable sector that is unreadable, in a segment that is looked at and reads, and its sector of the segment's block
pub record IsMended (c : Cartridge) (looked : List Looked) (segment sector : ℕ) (bytes : List ℕ) : Type 0 where
  pub at : Looked
  pub among : Contains looked at
  pub here : at.segment ≡ segment
  pub sectors : List (List ℕ)
  pub says : Says (cells_at c at) (Data sectors)
  pub can_be_read : reads at (Data sectors) ≡ true
  pub place : ℕ
  pub within : place < usable_count at.mask
  pub index : slice_index (usable_places at.mask) place ≡ sector
  pub unreadable : IsUnreadable (view_at c segment sector)
  pub block : sector_at (with_parity sectors) place ≡ bytes

-- a lost sector that is to be mended holds its sector of the block
abbrev pub HasBeenMended : (c : Cartridge) (looked : List Looked) (d : Cartridge) (segment sector : ℕ) → Type 0
HasBeenMended c looked d segment sector =
    (bytes : List ℕ) × IsMended c looked segment sector bytes
    × (view_at c segment sector ≡ Lost) × (view_at d segment sector ≡ Holds bytes)

-- the marks are as they were, and so is each sector, but for lost ones that have been mended
pub record IsBeingMended (looked : List Looked) (c d : Cartridge) : Type 0 where
  pub info : d.info ≡ c.info
  pub each : (segment sector : ℕ) → sector < 32 →
      (view_at d segment sector ≡ view_at c segment sector) ⊎ HasBeenMended c looked d segment sector

-- the marks are as they were; each sector to be mended holds its sector of the block where it takes a write, and all others
-- are as they were
pub record IsScrubbed (looked : List Looked) (c d : Cartridge) : Type 0 where
  pub info : d.info ≡ c.info
  pub mended : (segment sector : ℕ) (bytes : List ℕ) → sector < 32 → IsMended c looked segment sector bytes →
      view_at d segment sector ≡ written_view bytes (view_at c segment sector)
  pub others : (segment sector : ℕ) → sector < 32 → ((bytes : List ℕ) → IsMended c looked segment sector bytes → ⊥) →
      view_at d segment sector ≡ view_at c segment sector
