-- Laws of a segment's shape (QIC-80-MC).
use Rattle.std.specs.Prelude.{ℕ, ◌^◌, ◌<◌, ◌≡◌, ◌*◌, length}
use Rattle.cartridge_laws.specs.Shape.{data_places}
use Rattle.cartridge_spec.specs.Shape.{capacity, mask_of}
use Rattle.qic_base.specs.CartridgeTerms.{IsLost}

-- the bit of the mask is the turned bit of the map's word
abbrev pub MarkedAreUnusable : Type 0
MarkedAreUnusable = (word sector : ℕ) → word < 2 ^ 32 → sector < 32 →
    (IsLost word sector → ¬ (IsLost (mask_of word) sector)) × (¬ (IsLost word sector) → IsLost (mask_of word) sector)

-- the capacity is 1,024 bytes for each data sector
abbrev pub CapacityIsOfDataSectors : Type 0
CapacityIsOfDataSectors = (mask : ℕ) → capacity mask ≡ 1024 * length (data_places mask)
