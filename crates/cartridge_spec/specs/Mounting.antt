-- What the mounting of a cartridge gives, and the cartridge as it leaves it (this project's profile).
use Rattle.std.specs.Prelude.{ℕ, List, ◌≡◌, Some, ◌⊎◌, if◌then◌else◌, false, Option, IsSomeAnd}
use Rattle.cartridge_spec.specs.Header.{Header, HeaderFault, header_fault}
use Rattle.cartridge_spec.specs.HeaderCopies.{IsFormatted, HasHeader, last_segment, IsUnformatted}
use Rattle.cartridge_spec.specs.Says.{LostSectors, Mismatch, TableSays, ByCode, whole_mask, with_parity}
use Rattle.cartridge_spec.specs.Settling.{writes_of, changed_by, settling_steps}
use Rattle.cartridge_spec.specs.Shape.{usable_places}
use Rattle.cartridge_spec.specs.Table.{Entry, IsFirstFault, HasNoFault}
use Rattle.cartridge_spec.specs.TableSegment.{TableIs, table_cells, ReadsPlainly}
use Rattle.cartridge_spec.specs.Volumes.{Plain, entries_of, Stands}
use Rattle.qic_base.specs.Cartridge.{Cartridge}
use Rattle.qic_base.specs.Step.{Torn}
use Rattle.cartridge_spec.specs.Table as tables

-- what the mounting of a cartridge gives: its first refusal, or the header in force, the words of its map, the table's
-- data and the entries
pub data Mounting : Type 0 where
  NotFormatted : Mounting
  Foreign : HeaderFault → Mounting
  TableLost : ℕ → Mounting
  TableMismatch : Mounting
  Mounted : Header → (words : List ℕ) → (table : List (List ℕ)) → List Entry → Mounting

-- some header in force is sound
pub record IsSoundlyFormatted (c : Cartridge) : Type 0 where
  pub area : List (List ℕ)
  pub header : Header
  pub words : List ℕ
  pub formatted : IsFormatted c area header words

-- the header in force fails a test, or the table's data have a slot at fault
pub record RefusesHeader (c : Cartridge) (fault : HeaderFault) : Type 0 where
  pub area : List (List ℕ)
  pub has_header : HasHeader c area
  pub first : header_fault area c.info.segments_per_track ≡ Some fault

pub record RefusesTable (c : Cartridge) (fault : HeaderFault) : Type 0 where
  pub formatted : IsSoundlyFormatted c
  pub area : List (List ℕ)
  pub table : TableIs c area
  pub first : IsFirstFault area (last_segment c) fault

-- the cartridge mounts, and lists these entries
pub record IsMounted (c : Cartridge) (header : Header) (words : List ℕ) (table : List (List ℕ)) (entries : List Entry) : Type 0 where
  pub area : List (List ℕ)
  pub formatted : IsFormatted c area header words
  pub reads : TableIs c table
  pub sound : HasNoFault table (last_segment c)
  pub shown : tables.Shows table entries

abbrev pub Mounts : Cartridge → Mounting → Type 0
Mounts c NotFormatted = IsUnformatted c
Mounts c (Foreign fault) = RefusesHeader c fault ⊎ RefusesTable c fault
Mounts c (TableLost n) = IsSoundlyFormatted c × TableSays (table_cells c) (ByCode (LostSectors n))
Mounts c TableMismatch = IsSoundlyFormatted c × TableSays (table_cells c) (ByCode Mismatch)
Mounts c (Mounted header words table entries) = IsMounted c header words table entries

-- the cartridge as its mounting leaves it, where its table's data are these: on one that is not protected each live
-- sector of segment 2 holds its sector of the data and their parity
abbrev pub settled : List (List ℕ) → Cartridge → Cartridge
settled area c = if c.info.protected then c else changed_by (writes_of 2 (usable_places whole_mask) (with_parity area)) c

-- ---- a cartridge that stands for a plain one

-- what the mounting of such a one gives: the plain one's header, map, table and entries
abbrev pub mounted_as : Plain → Mounting
mounted_as plain = Mounted plain.header plain.words plain.table_area (entries_of plain)

-- a cartridge is mounted with this header, these words and this list, whatever the data of its table
abbrev pub Lists : Cartridge → Header → (words : List ℕ) → List Entry → Type 0
Lists d header words entries = (table : List (List ℕ)) × Mounts d (Mounted header words table entries)

-- ---- mounting and settling

-- The cartridge is mounted as a plain one, and so is what a stop among the writes that settle its table leaves. Once it is settled,
-- where it is not protected, it stands for that one, and its table is read without leaving a readable sector out of account.
pub record ComesBackAs (c : Cartridge) (plain : Plain) : Type 0 where
  pub mounts : Mounts c (mounted_as plain)
  pub stopped : (left : Option Cartridge) → Torn (settling_steps plain.table_area c) (Some c) left →
      IsSomeAnd left (λ d. Mounts d (mounted_as plain))
  pub stands : c.info.protected ≡ false → Stands (settled plain.table_area c) plain
  pub plainly : c.info.protected ≡ false → ReadsPlainly (settled plain.table_area c) plain.table_area
