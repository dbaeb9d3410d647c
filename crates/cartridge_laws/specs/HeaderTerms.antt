-- Parts of what the specs say of the header and its copies, by names of their own.
use Rattle.std.specs.Prelude.{ℕ, List, ◌+◌, ◌*◌, ◌/◌, ◌%◌, ◌≤◌, ◌<◌, ◌==◌, ◌⊎◌, not, Option, None, Some, slice_index, slice_range, map}
use Rattle.std.specs.Prelude.{if◌then◌else◌}
use Rattle.std.specs.List.{range_with_len}
use Rattle.cartridge_spec.specs.Formatting.{HasNoHeader, fresh_header}
use Rattle.cartridge_spec.specs.Header.{Field, Text, HeaderFault, SpellsHeader, value_fault, word_in}
use Rattle.cartridge_spec.specs.Shape.{IsArea, sector_at}
use Rattle.cartridge_spec.specs.HeaderCopies.{copy_cells, CopyReads, CopyDoesNotRead, IsUnformatted}
use Rattle.cartridge_spec.specs.Says.{Written, Zero, unreadable_count}
use Rattle.qic_base.specs.Cartridge.{Cartridge}
use Rattle.qic_base.specs.declared.foreign.ForeignField.{ForeignField}
use Rattle.qic_base.specs.declared.foreign.ForeignField.TheVariants.{Map}

-- byte k of the area's 29,696 bytes
abbrev pub byte_in : List (List ℕ) → ℕ → ℕ
byte_in area k = slice_index (sector_at area (k / 1024)) (k % 1024)

-- the bytes in the field of this many bytes that begins at an offset; no field lies in two sectors
abbrev pub text_in : List (List ℕ) → (offset width : ℕ) → List ℕ
text_in area offset width = slice_range (sector_at area (offset / 1024)) (offset % 1024) (offset % 1024 + width)

-- the words of the first segments in the bad sector map
abbrev pub words_in : List (List ℕ) → ℕ → List ℕ
words_in area segments = map (word_in area) (range_with_len 0 segments)

-- the byte belongs to the word of one of the first segments
abbrev pub IsInMap : (segments k : ℕ) → Type 0
IsInMap segments k = (2048 ≤ k) × (k < 2048 + 4 * segments)

-- the byte belongs to the field
abbrev pub IsInField : (k : ℕ) → Field → Type 0
IsInField k field = (field.offset ≤ k) × (k < field.offset + field.width)

-- a field of bytes as they are, without a test
abbrev pub text : (offset width : ℕ) → List ℕ → Field
text offset width bytes = record { offset = offset; width = width; value = Text bytes; test = None }

abbrev pub fault_as : ForeignField → ℕ → HeaderFault
fault_as field value = record { field = field; value = value }

-- a number that stands in a field with a test, in place of its value
abbrev pub field_fault : List (List ℕ) → Field → Option HeaderFault
field_fault area field = value_fault area field.offset field.width field.value field.test

-- the first of segments 0 to 2 whose word in the bad sector map is not 0
abbrev pub map_fault : List (List ℕ) → Option HeaderFault
map_fault area =
    if not (word_in area 0 == 0) then Some (fault_as Map 0)
    else if not (word_in area 1 == 0) then Some (fault_as Map 1)
    else if not (word_in area 2 == 0) then Some (fault_as Map 2)
    else None

-- the header in force is that of copy 0 where it reads, and else that of copy 1
abbrev pub IsInForce : Cartridge → List (List ℕ) → Type 0
IsInForce c area = CopyReads c 0 area ⊎ (CopyDoesNotRead c 0 × CopyReads c 1 area)

-- a header copy was written with these data, or holds zero bytes
abbrev pub IsCleanCopy : Cartridge → (copy : ℕ) → (area : List (List ℕ)) → Type 0
IsCleanCopy c copy area = Written (copy_cells c copy) area ⊎ Zero (copy_cells c copy)

-- a header copy holds nothing but zero bytes, as one of a new cartridge, or has lost more sectors than the code finds
-- again
abbrev pub IsBareCopy : Cartridge → (copy : ℕ) → Type 0
IsBareCopy c copy = Zero (copy_cells c copy) ⊎ 3 < unreadable_count (copy_cells c copy)

-- both header copies are bare, and so the cartridge is unformatted
abbrev pub IsBare : Cartridge → Type 0
IsBare c = HasNoHeader c × IsUnformatted c

-- no header copy of it can be read
abbrev pub NeitherReads : Cartridge → Type 0
NeitherReads c = CopyDoesNotRead c 0 × CopyDoesNotRead c 1

-- Copy 0 was written with the header data, whatever copy 1 holds; or copy 0 holds zero bytes and copy 1 was written
-- with them.
abbrev pub CopiesAre : Cartridge → List (List ℕ) → Type 0
CopiesAre c area =
    Written (copy_cells c 0) area ⊎ (Zero (copy_cells c 0) × Written (copy_cells c 1) area)

-- data of a fresh header, with the words of this map
pub record IsFreshArea (n : ℕ) (label : List ℕ) (date : ℕ) (words : List ℕ) (area : List (List ℕ)) : Type 0 where
  pub size : IsArea area
  pub spells : SpellsHeader (fresh_header n label date) words area
