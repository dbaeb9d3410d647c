-- Volumes more: the room for one, its segments, its bytes in sectors, its entry, and the writes (this project's
-- profile).
use Rattle.std.specs.Prelude.{ℕ, List, [], ◌∷◌, ◌+◌, length, if◌then◌else◌, nat_lt, ◌-◌, nat_le, ◌&&◌, Bool, ◌++◌, replicate, zero, suc}
use Rattle.std.specs.Prelude.{take, drop, slice_index, sum_by}
use Rattle.cartridge_spec.specs.Says.{with_parity}
use Rattle.cartridge_spec.specs.Settling.{block_writes}
use Rattle.cartridge_spec.specs.Shape.{mask_at, capacity, data_count, usable_places}
use Rattle.cartridge_spec.specs.Table.{Entry, table_with}
use Rattle.cartridge_spec.specs.Volumes.{carrying, capacity_between, Volume, Part, Plain, entries_of}
use Rattle.qic_base.specs.Step.{Step, NewSector, WriteSectors}

-- the end of the last of some volumes behind a segment, or that segment where there is none
abbrev pub end_behind : (before : ℕ) → List Entry → ℕ
end_behind before [] = before
end_behind before (e ∷ es) = end_behind e.end es

-- the carrying segments behind the last volume, or behind the table's segment, ascending: up to the last one of the map
abbrev pub free_segments : (words : List ℕ) → List Entry → List ℕ
free_segments words entries = carrying words (end_behind 2 entries + 1) (length words - 1)

-- the bytes that a new volume may have: those that these segments carry, and none where the table is full
abbrev pub room : (words : List ℕ) → List Entry → ℕ
room words entries = if nat_lt (length entries) 232 then capacity_between words (end_behind 2 entries + 1) (length words - 1) else 0

-- those of some carrying segments that a volume of so many bytes takes, in their order: it ends with the one that takes
-- its last byte, and takes one for no byte
abbrev pub taken_by : (words : List ℕ) (bytes : ℕ) (segments : List ℕ) → List ℕ
taken_by words bytes [] = []
taken_by words bytes (s ∷ ss) =
    s ∷ (if nat_le bytes (capacity (mask_at words s)) then [] else taken_by words (bytes - capacity (mask_at words s)) ss)

-- bytes of one sector, with zero bytes behind them
abbrev pub filled_up : List ℕ → List ℕ
filled_up bytes = bytes ++ replicate (1024 - length bytes) 0

-- bytes in so many sectors, one after the other, with zero bytes behind them
abbrev pub in_sectors : (count : ℕ) → (bytes : List ℕ) → List (List ℕ)
in_sectors zero bytes = []
in_sectors (suc count) bytes = filled_up (take 1024 bytes) ∷ in_sectors count (drop 1024 bytes)

-- what a slot says of a volume that was appended: its first and its last segment, its name of 44 bytes, its date word,
-- and how many bytes it has
abbrev pub new_entry : (segments : List ℕ) → (name : List ℕ) → (date bytes : ℕ) → Entry
new_entry segments name date bytes =
    let last : ℕ = slice_index segments (length segments - 1) in
    record { start = slice_index segments 0; end = last; name = name; date = date; flags = 1; sequence = 1; directory = 0; size = bytes }

-- the entry of a volume of so many bytes behind the others
abbrev pub entry_of_length : (words : List ℕ) → List Entry → (name : List ℕ) → (date bytes : ℕ) → Entry
entry_of_length words entries name date bytes =
    new_entry (taken_by words bytes (free_segments words entries)) name date bytes

-- the entry of one of these bytes
abbrev pub entry_behind : (words : List ℕ) → List Entry → (name : List ℕ) → (date : ℕ) → (bytes : List ℕ) → Entry
entry_behind words entries name date bytes = entry_of_length words entries name date (length bytes)

-- the writes of the table's new data: the changed sector of data, and those of parity
abbrev pub table_writes : (changed : ℕ) → (new : List (List ℕ)) → List Step
table_writes changed new = block_writes (with_parity new) (changed ∷ 29 ∷ 30 ∷ 31 ∷ [])

-- sectors of a segment, by their indexes, with their bytes
abbrev pub new_sectors : (places : List ℕ) → (sectors : List (List ℕ)) → List NewSector
new_sectors (place ∷ places) (bytes ∷ sectors) = record { sector = place; bytes = bytes } ∷ new_sectors places sectors
new_sectors places sectors = []

-- all usable sectors of a segment at once: its part of an area, and the parity of it
abbrev pub part_writes : (words : List ℕ) → Part → List Step
part_writes words part =
    WriteSectors part.segment (new_sectors (usable_places (mask_at words part.segment)) (with_parity part.sectors)) ∷ []

-- ---- the plain cartridge with volumes more

-- it has room for a volume of so many bytes
abbrev pub has_room : Plain → (bytes : ℕ) → Bool
has_room plain bytes = let have : ℕ = room plain.words (entries_of plain) in nat_le 1 have && nat_le bytes have

-- the new volume: of a name of 44 bytes, a date word, and bytes
abbrev pub appended_volume : Plain → (name : List ℕ) → (date : ℕ) → (bytes : List ℕ) → Volume
appended_volume plain name date bytes =
    let free : List ℕ = free_segments plain.words (entries_of plain) in
    let segments : List ℕ = taken_by plain.words (length bytes) free in
    let count : ℕ = sum_by (λ s. data_count (mask_at plain.words s)) segments in
    record { entry = entry_behind plain.words (entries_of plain) name date bytes; area = in_sectors count bytes }

-- the plain cartridge with it behind the others, and with its entry in the table
abbrev pub with_bytes : Plain → (name : List ℕ) → (date : ℕ) → (bytes : List ℕ) → Plain
with_bytes plain name date bytes =
    let volume : Volume = appended_volume plain name date bytes in
    let table : List (List ℕ) = table_with plain.table_area (length plain.volumes) volume.entry in
    record plain { table_area = table; volumes = plain.volumes ++ volume ∷ [] }

-- what is appended: the bytes of a volume, with its name and its date word
pub record Content : Type 0 where
  pub name : List ℕ
  pub date : ℕ
  pub bytes : List ℕ

-- with several, one behind the other
abbrev pub with_all : Plain → List Content → Plain
with_all plain [] = plain
with_all plain (content ∷ more) = with_all (with_bytes plain content.name content.date content.bytes) more
