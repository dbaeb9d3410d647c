-- What a segment says: the cells of its usable sectors, the code block that agrees with those that can be read, and the
-- data in it (QIC-80-MC: three sectors of parity behind the data, so three sectors that are lost are found again).
use Rattle.std.specs.Prelude.{ℕ, zero, suc, ◌-◌, ◌^◌, ◌/◌, ◌%◌, ◌==◌, ◌||◌, ◌≡◌, ◌<◌, ◌≤◌, ◌⊎◌, ◌++◌, List, [], ◌∷◌, map, count_by, All}
use Rattle.std.specs.Prelude.{length, slice_get, take, Bool, false, Option, Some, None, unwrap_or, if◌then◌else◌, bit_or, nat_lt}
use Rattle.cartridge_spec.specs.Code.{IsCodeBlock, parity_sectors}
use Rattle.cartridge_spec.specs.Shape.{usable_places, is_unreadable}
use Rattle.cartridge_spec.specs.Table.{slot, is_used}
use Rattle.qic_base.specs.Cartridge.{Cartridge, view_at, zero_sector}
use Rattle.qic_base.specs.declared.tape.SectorView.{SectorView}
use Rattle.qic_base.specs.declared.tape.SectorView.TheVariants.{Lost, Holds}

-- a segment without a bad sector
abbrev pub whole_mask : ℕ
whole_mask = 2 ^ 32 - 1

-- the views of the usable sectors of a segment, in order of index
abbrev pub cells_of : Cartridge → (segment mask : ℕ) → List SectorView
cells_of c segment mask = map (view_at c segment) (usable_places mask)

abbrev pub unreadable_count : List SectorView → ℕ
unreadable_count cells = count_by is_unreadable cells

-- each cell that can be read holds its sector of the block
pub record Agrees (cells : List SectorView) (block : List (List ℕ)) : Type 0 where
  pub size : length block ≡ length cells
  pub each : (i : ℕ) (bytes : List ℕ) → slice_get cells i ≡ Some (Holds bytes) → slice_get block i ≡ Some bytes

-- a code block that agrees with the cells, with this data: its sectors before the three of parity
pub record HasBlock (cells : List SectorView) (data_sectors : List (List ℕ)) : Type 0 where
  pub block : List (List ℕ)
  pub code : IsCodeBlock block
  pub agrees : Agrees cells block
  pub shown : data_sectors ≡ take (length block - 3) block

-- no code block agrees with the cells
abbrev pub HasNoBlock : List SectorView → Type 0
HasNoBlock cells = (block : List (List ℕ)) → IsCodeBlock block → Agrees cells block → ⊥

-- what a segment says
pub data Saying : Type 0 where
  -- its data sectors
  Data : List (List ℕ) → Saying
  -- so many of its usable sectors are unreadable, more than three
  LostSectors : ℕ → Saying
  -- at most three are, and the others are those of no code block
  Mismatch : Saying

abbrev pub Says : List SectorView → Saying → Type 0
Says cells (Data sectors) = (unreadable_count cells ≤ 3) × HasBlock cells sectors
Says cells (LostSectors n) = (unreadable_count cells ≡ n) × (3 < n)
Says cells Mismatch = (unreadable_count cells ≤ 3) × HasNoBlock cells

-- data sectors, followed by their parity
abbrev pub with_parity : List (List ℕ) → List (List ℕ)
with_parity sectors = sectors ++ parity_sectors sectors

-- they were written: each cell that can be read holds its sector of them
abbrev pub Written : List SectorView → List (List ℕ) → Type 0
Written cells sectors = Agrees cells (with_parity sectors)

-- each cell that can be read holds zero bytes
abbrev pub Zero : List SectorView → Type 0
Zero cells = (i : ℕ) (bytes : List ℕ) → slice_get cells i ≡ Some (Holds bytes) → bytes ≡ zero_sector

-- ---- the volume table's segment (this project's profile)

-- all its data sectors can be read, and hold these
pub record ReadsAll (cells : List SectorView) (sectors : List (List ℕ)) : Type 0 where
  pub size : length sectors ≡ 29
  pub each : (i : ℕ) → i < 29 → (bytes : List ℕ) × (slice_get cells i ≡ Some (Holds bytes)) × (slice_get sectors i ≡ Some bytes)

-- the cells, the first of which is at this place, with those at the places of a set seen as lost
unfoldable pub hidden_from : (set place : ℕ) → List SectorView → List SectorView
hidden_from set place [] = []
hidden_from set place (cell ∷ cells) = (if set / 2 ^ place % 2 == 1 then Lost else cell) ∷ hidden_from set (suc place) cells

-- the data of the code block that agrees with the cells outside the first of these sets for which there is one
abbrev pub HasFirstBlock : List ℕ → List SectorView → List (List ℕ) → Type 0
HasFirstBlock [] cells sectors = ⊥
HasFirstBlock (set ∷ sets) cells sectors =
    HasBlock (hidden_from set 0 cells) sectors ⊎ (HasNoBlock (hidden_from set 0 cells) × HasFirstBlock sets cells sectors)

-- what a segment says where these sets are tried, in their order
abbrev pub SaysBy : List ℕ → List SectorView → Saying → Type 0
SaysBy sets cells (Data sectors) = (unreadable_count cells ≤ 3) × HasFirstBlock sets cells sectors
SaysBy sets cells (LostSectors n) = (unreadable_count cells ≡ n) × (3 < n)
SaysBy sets cells Mismatch = (unreadable_count cells ≤ 3) × All (λ set. HasNoBlock (hidden_from set 0 cells)) sets

-- ---- what the table's segment says: the sets of sectors that its reading leaves out, one after the other

-- some of the first slots of a sector is used
unfoldable pub some_used_below : List ℕ → ℕ → Bool
some_used_below bytes zero = false
some_used_below bytes (suc j) = is_used (slot (bytes ∷ []) j) || some_used_below bytes j

-- the cell can be read, and some of its eight slots is used
abbrev pub shows_used_slot : SectorView → Bool
shows_used_slot (Holds bytes) = some_used_below bytes 8
shows_used_slot view = false

-- the last of the first cells that does
unfoldable pub last_used_below : List SectorView → ℕ → Option ℕ
last_used_below cells zero = None
last_used_below cells (suc i) = if shows_used_slot (unwrap_or (slice_get cells i) Lost) then Some i else last_used_below cells i

-- the places of the unreadable cells, ascending, where the first cell is at this place
unfoldable pub unreadable_from : ℕ → List SectorView → List ℕ
unreadable_from place [] = []
unreadable_from place (cell ∷ cells) =
    if is_unreadable cell then place ∷ unreadable_from (suc place) cells else unreadable_from (suc place) cells

-- the set of these places
unfoldable pub set_of : List ℕ → ℕ
set_of [] = 0
set_of (place ∷ places) = bit_or (2 ^ place) (set_of places)

-- the set of the last sector with a used slot and these places; none where there is no such sector
abbrev pub with_used : (used : Option ℕ) → (places : List ℕ) → List ℕ
with_used None places = []
with_used (Some k) places = set_of (k ∷ places) ∷ []

-- the sets behind the empty one, by the unreadable places: one of data, alone or with another one behind it
abbrev pub sets_by : (used : Option ℕ) → (unreadable : List ℕ) → List ℕ
sets_by used (m ∷ []) =
    if nat_lt m 29
    then set_of (m ∷ 31 ∷ []) ∷ set_of (m ∷ 29 ∷ []) ∷ with_used used (m ∷ []) ++ set_of (m ∷ 30 ∷ 31 ∷ []) ∷ [] else []
sets_by used (m ∷ other ∷ []) =
    if nat_lt m 29
    then (if other == 29 then with_used used (m ∷ 29 ∷ []) else if other == 30 then set_of (m ∷ 30 ∷ 31 ∷ []) ∷ [] else []) else []
sets_by used unreadable = []

-- its data as they are, where all of them can be read, and else what the code says: without leaving a sector out, and
-- then by the sets of its unreadable sectors, of its last data sector with a used slot and of the parity sectors
pub data TableSaying : Type 0 where
  AsRead : List (List ℕ) → TableSaying
  ByCode : Saying → TableSaying

abbrev pub TableSays : List SectorView → TableSaying → Type 0
TableSays cells (AsRead sectors) = ReadsAll cells sectors
TableSays cells (ByCode saying) =
    (0 < unreadable_count (take 29 cells)) × SaysBy (0 ∷ sets_by (last_used_below cells 29) (unreadable_from 0 cells)) cells saying
