-- The shape of a segment: which of its sectors are usable, and which of these are parity (QIC-80-MC); the views of
-- sectors.
use Rattle.std.specs.Prelude.{ℕ, List, ◌-◌, ◌^◌, slice_index, length, ◌*◌, nat_le, if◌then◌else◌, sum_by, Bool, true, false, [], slice_get}
use Rattle.std.specs.Prelude.{unwrap_or, ◌≡◌, All}
use Rattle.qic_base.specs.Cartridge.{lost_places, IsSector}
use Rattle.qic_base.specs.declared.tape.SectorView.{SectorView}
use Rattle.qic_base.specs.declared.tape.SectorView.TheVariants.{Blank, Defect, Holds}

-- the mask of a segment, by its word in the bad sector map
abbrev pub mask_of : ℕ → ℕ
mask_of word = 2 ^ 32 - 1 - word

-- and by the words of the map
abbrev pub mask_at : List ℕ → ℕ → ℕ
mask_at words segment = mask_of (slice_index words segment)

-- the usable sectors: those of 0 to 31 whose bits are 1, ascending
abbrev pub usable_places : ℕ → List ℕ
usable_places mask = lost_places mask 32

abbrev pub usable_count : ℕ → ℕ
usable_count mask = length (usable_places mask)

-- all usable sectors but the last three hold data; none does where three or fewer are usable
abbrev pub data_count : ℕ → ℕ
data_count mask = usable_count mask - 3

-- the bytes of data that a segment carries
abbrev pub capacity : ℕ → ℕ
capacity mask = if nat_le 4 (usable_count mask) then 1024 * data_count mask else 0

-- the number of bad sectors that the words of a map mark
abbrev pub marked_sectors : List ℕ → ℕ
marked_sectors words = sum_by (λ word. length (lost_places word 32)) words

-- every sector that does not hold bytes is unreadable
abbrev pub is_unreadable : SectorView → Bool
is_unreadable (Holds bytes) = false
is_unreadable view = true

-- a sector that takes what is written to it: it was formatted, and is no defect
abbrev pub IsLive : SectorView → Type 0
IsLive Blank = ⊥
IsLive Defect = ⊥
IsLive view = Unit {0}

-- the bytes of a sector in a list of sectors
abbrev pub sector_at : List (List ℕ) → ℕ → List ℕ
sector_at sectors i = unwrap_or (slice_get sectors i) []

-- the data sectors of a full segment
pub record IsArea (area : List (List ℕ)) : Type 0 where
  pub size : length area ≡ 29
  pub sectors : All IsSector area
