-- The laws of what segments say, as facts.
use Rattle.std.specs.Prelude.{◌≡◌, List, All, ◌≤◌, length, ◌≢◌, ◌<◌, ℕ, Some, slice_get, ◌+◌, replicate, false}
use Rattle.std.specs.List.{range_with_len}
use Rattle.cartridge_spec.specs.Header.{has_signature}
use Rattle.cartridge_spec.specs.HeaderCopies.{copy_cells, CopyDoesNotRead}
use Rattle.cartridge_spec.specs.Says.{Saying, Says, TableSaying, TableSays, Mismatch, ByCode, ReadsAll, cells_of, whole_mask, Data, Written}
use Rattle.cartridge_spec.specs.Says.{unreadable_count, LostSectors, Zero}
use Rattle.cartridge_laws.specs.Segment.{unreadable_data}
use Rattle.cartridge_spec.specs.Shape.{usable_count, usable_places}
use Rattle.qic_base.specs.CartridgeTerms.{IsView, IsCartridge}
use Rattle.qic_base.specs.Cartridge.{Cartridge, view_at, zero_sector, IsSector}
use Rattle.qic_base.specs.declared.tape.SectorView.{SectorView}

-- ---- what a segment says

-- it says at most one thing
abbrev pub SaysIsFunction : Type 0
SaysIsFunction = (cells : List SectorView) (a b : Saying) → Says cells a → Says cells b → a ≡ b

-- and it says something, whatever the number of its cells
abbrev pub SaysAlways : Type 0
SaysAlways = (cells : List SectorView) → All IsView cells → (saying : Saying) × Says cells saying

-- ---- what the table's segment says

abbrev pub TableSaysIsFunction : Type 0
TableSaysIsFunction = (cells : List SectorView) (a b : TableSaying) → TableSays cells a → TableSays cells b → a ≡ b

-- it has 29 data sectors at least
abbrev pub TableSaysAlways : Type 0
TableSaysAlways =
    (cells : List SectorView) → 29 ≤ length cells → All IsView cells → (saying : TableSaying) × TableSays cells saying

-- what any segment would say by the code, it says too where a sector of data is unreadable, unless that is a mismatch
abbrev pub SaidIsTable : Type 0
SaidIsTable =
    (cells : List SectorView) (saying : Saying) → 0 < unreadable_data cells → Says cells saying → saying ≢ Mismatch →
    TableSays cells (ByCode saying)

-- data that are read as they are, are sectors
abbrev pub ReadAreSectors : Type 0
ReadAreSectors =
    (cells : List SectorView) (sectors : List (List ℕ)) → All IsView cells → ReadsAll cells sectors → All IsSector sectors

-- ---- the cells of a cartridge's segment

-- as many as it has usable sectors
abbrev pub CountOfCells : Type 0
CountOfCells = (c : Cartridge) (segment mask : ℕ) → length (cells_of c segment mask) ≡ usable_count mask

-- those that can be read hold sectors
abbrev pub CellsAreViews : Type 0
CellsAreViews = (c : Cartridge) (segment mask : ℕ) → IsCartridge c → All IsView (cells_of c segment mask)

-- the usable sectors of a whole segment are sectors 0 to 31
abbrev pub PlacesOfWhole : Type 0
PlacesOfWhole = usable_places whole_mask ≡ range_with_len 0 32

-- and its cells are their views
abbrev pub CellsOfWhole : Type 0
CellsOfWhole =
    (c : Cartridge) (segment i : ℕ) → i < 32 → slice_get (cells_of c segment whole_mask) i ≡ Some (view_at c segment i)

-- ---- what was written

-- it is said where at most three cells are unreadable
abbrev pub WrittenIsSaid : Type 0
WrittenIsSaid =
    (cells : List SectorView) (sectors : List (List ℕ)) →
    1 ≤ length sectors → length sectors ≤ 29 → All IsSector sectors →
    Written cells sectors → unreadable_count cells ≤ 3 → Says cells (Data sectors)

-- and elsewhere their number is said
abbrev pub WrittenIsLost : Type 0
WrittenIsLost =
    (cells : List SectorView) → 3 < unreadable_count cells → Says cells (LostSectors (unreadable_count cells))

-- data that are said are as if written
abbrev pub SaidIsWritten : Type 0
SaidIsWritten =
    (cells : List SectorView) (sectors : List (List ℕ)) → Says cells (Data sectors) → Written cells sectors

-- sectors, three fewer than the cells
pub record AreDataSectors (cells : List SectorView) (sectors : List (List ℕ)) : Type 0 where
  pub size : length sectors + 3 ≡ length cells
  pub each : All IsSector sectors

abbrev pub SaidAreSectors : Type 0
SaidAreSectors =
    (cells : List SectorView) (sectors : List (List ℕ)) → Says cells (Data sectors) → AreDataSectors cells sectors

-- ---- zero bytes

-- cells of zero bytes are those of data of zero bytes and their parity
abbrev pub ZeroIsWritten : Type 0
ZeroIsWritten =
    (cells : List SectorView) (n : ℕ) → Zero cells → length cells ≡ n + 3 → 1 ≤ n → n ≤ 29 →
    Written cells (replicate n zero_sector)

-- a whole segment of zero bytes says no other data
abbrev pub ZeroSaysZero : Type 0
ZeroSaysZero =
    (cells : List SectorView) (sectors : List (List ℕ)) → Says cells (Data sectors) → Zero cells →
    length cells ≡ 32 → sectors ≡ replicate 29 zero_sector

-- and so no header
abbrev pub ZeroHasNoSignature : Type 0
ZeroHasNoSignature =
    (cells : List SectorView) (sectors : List (List ℕ)) → Says cells (Data sectors) → Zero cells →
    length cells ≡ 32 → has_signature sectors ≡ false

-- a header copy of zero bytes can't be read
abbrev pub ZeroDoesNotRead : Type 0
ZeroDoesNotRead = (c : Cartridge) (copy : ℕ) → Zero (copy_cells c copy) → CopyDoesNotRead c copy
