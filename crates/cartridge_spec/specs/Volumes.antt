-- Volumes, and the plain cartridge that a cartridge stands for: its header, its table and its volumes (the rules of a
-- volume's segments and of its length are this project's profile).
use Rattle.std.specs.Prelude.{ℕ, ◌+◌, ◌-◌, List, filter, nat_le, sum_by, ◌==◌, ◌&&◌, if◌then◌else◌, [], ◌∷◌, take, drop, ◌≡◌, length, All}
use Rattle.std.specs.Prelude.{map, ◌⊎◌, None, ◌<◌, ◌≤◌, ◌++◌}
use Rattle.std.specs.List.{range_with_len}
use Rattle.cartridge_spec.specs.Header.{Header, header_fault}
use Rattle.cartridge_spec.specs.HeaderCopies.{copy_cells, HasHeader, last_segment}
use Rattle.cartridge_spec.specs.Says.{cells_of, Written, Zero, ReadsAll}
use Rattle.cartridge_spec.specs.Shape.{IsArea, mask_at, usable_count, capacity, data_count}
use Rattle.cartridge_spec.specs.Table.{Entry, HasNoFault}
use Rattle.cartridge_spec.specs.TableSegment.{table_cells}
use Rattle.qic_base.specs.Cartridge.{Cartridge, IsSector}
use Rattle.qic_base.specs.Step.{Wear, changed}
use Rattle.cartridge_spec.specs.Header as headers
use Rattle.cartridge_spec.specs.Table as tables

-- the segments from one to another that carry data
abbrev pub carrying : List ℕ → (start end : ℕ) → List ℕ
carrying words start end = filter (λ s. nat_le 4 (usable_count (mask_at words s))) (range_with_len start (end + 1 - start))

-- the bytes of data that these segments carry
abbrev pub capacity_between : List ℕ → (start end : ℕ) → ℕ
capacity_between words start end = sum_by (λ s. capacity (mask_at words s)) (range_with_len start (end + 1 - start))

-- a volume's length in bytes: its data size, where there is no directory and that fits its segments, and else all that
-- they carry
abbrev pub volume_length : List ℕ → Entry → ℕ
volume_length words e =
    if e.directory == 0 && nat_le e.size (capacity_between words e.start e.end) then e.size
    else capacity_between words e.start e.end

-- an entry, and the data sectors of its carrying segments, one after the other
pub record Volume : Type 0 where
  pub entry : Entry
  pub area : List (List ℕ)

-- the carrying segments of a volume
abbrev pub carrying_segments : List ℕ → Entry → List ℕ
carrying_segments words e = carrying words e.start e.end

-- a segment, and the sectors of an area that it holds
pub record Part : Type 0 where
  pub segment : ℕ
  pub sectors : List (List ℕ)

-- an area as these segments hold it, each with as many sectors as it carries
abbrev pub parts_of : (words segments : List ℕ) → List (List ℕ) → List Part
parts_of words [] area = []
parts_of words (s ∷ ss) area =
    record { segment = s; sectors = take (data_count (mask_at words s)) area }
    ∷ parts_of words ss (drop (data_count (mask_at words s)) area)

-- each carrying segment of a volume was written with its part of the area, which has no sector more
pub record VolumeStands (c : Cartridge) (words : List ℕ) (volume : Volume) : Type 0 where
  pub parts : All (λ part. Written (cells_of c part.segment (mask_at words part.segment)) part.sectors)
      (parts_of words (carrying_segments words volume.entry) volume.area)
  pub size : length volume.area ≡ sum_by (λ s. data_count (mask_at words s)) (carrying_segments words volume.entry)

pub record Plain : Type 0 where
  pub header_area : List (List ℕ)
  pub header : Header
  pub words : List ℕ
  pub table_area : List (List ℕ)
  pub volumes : List Volume

abbrev pub entries_of : Plain → List Entry
entries_of plain = map (λ volume. volume.entry) plain.volumes

-- its header is what its header data show, and each area is one of sectors
pub record IsPlain (plain : Plain) : Type 0 where
  pub header_area : IsArea plain.header_area
  pub shown : headers.Shows plain.header_area plain.header plain.words
  pub table_area : IsArea plain.table_area
  pub areas : All (λ volume. All IsSector volume.area) plain.volumes

-- A cartridge stands for a plain one, whose header is in force. Its header copy 0 was written with the header data, whatever
-- copy 1 holds where copy 0 reads; or copy 0 holds zero bytes and copy 1 was written with them.
pub record Stands (c : Cartridge) (plain : Plain) : Type 0 where
  pub whole : IsPlain plain
  pub header : HasHeader c plain.header_area
  pub sound_header : header_fault plain.header_area c.info.segments_per_track ≡ None
  pub copies : Written (copy_cells c 0) plain.header_area ⊎ (Zero (copy_cells c 0) × Written (copy_cells c 1) plain.header_area)
  pub sound_table : HasNoFault plain.table_area (last_segment c)
  pub shown : tables.Shows plain.table_area (entries_of plain)
  pub volumes : All (VolumeStands c plain.words) plain.volumes
  pub table : Written (table_cells c) plain.table_area ⊎ ReadsAll (table_cells c) plain.table_area

-- ---- a worn sector, and when it takes neither header nor table away

-- the cartridge with a sector worn
abbrev pub worn : (segment sector : ℕ) → Cartridge → Cartridge
worn segment sector c = changed (Wear segment sector) c

-- A worn sector takes neither the header nor the table away: it lies behind them; or it is one of a header copy, and
-- the header in force is the same without it; or it is one of the table's segment, whose readable sectors are those
-- that were written with their parity.
abbrev pub WearSpares : (c : Cartridge) (plain : Plain) (segment sector : ℕ) → Type 0
WearSpares c plain segment sector =
    (3 ≤ segment)
    ⊎ ((segment < 2) × HasHeader (worn segment sector c) plain.header_area)
    ⊎ ((segment ≡ 2) × Written (table_cells c) plain.table_area)

-- the bytes of some sectors, one after the other
abbrev pub bytes_in : List (List ℕ) → List ℕ
bytes_in [] = []
bytes_in (sector ∷ sectors) = sector ++ bytes_in sectors

-- the first ones of its area, as many as its length says
abbrev pub volume_bytes : (words : List ℕ) → Volume → List ℕ
volume_bytes words volume = take (volume_length words volume.entry) (bytes_in volume.area)
