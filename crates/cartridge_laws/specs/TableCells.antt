-- The sectors of the volume table's segment: the sets that its reading tries, those that its settling or an append writes, and a
-- table that holds a list (this project's profile).
use Rattle.std.specs.Prelude.{ℕ, List, ◌∷◌, [], ◌==◌, ◌++◌, Bool, false, not, Option, nat_lt, if◌then◌else◌}
use Rattle.cartridge_spec.specs.Code.{IsCodeBlock}
use Rattle.cartridge_spec.specs.Shape.{sector_at, is_unreadable}
use Rattle.cartridge_spec.specs.TableSegment.{table_cells}
use Rattle.cartridge_spec.specs.Says.{Agrees, last_used_below, set_of, sets_by, unreadable_from, with_used}
use Rattle.cartridge_spec.specs.Settling.{holds, holds_other}
use Rattle.cartridge_spec.specs.Table.{Entry}
use Rattle.qic_base.specs.Cartridge.{Cartridge, view_at}
use Rattle.qic_base.specs.declared.tape.SectorView.{SectorView}
use Rattle.cartridge_laws.specs.Segment.{data_of}
use Rattle.cartridge_spec.specs.Table as tables

-- the last data sector that can be read and has a used slot
abbrev pub last_used : List SectorView → Option ℕ
last_used cells = last_used_below cells 29

-- the sets that are tried, in their order: the last sector with a used slot is one of data
abbrev pub table_sets : List SectorView → List ℕ
table_sets cells = 0 ∷ sets_by (last_used_below cells 29) (unreadable_from 0 cells)

abbrev pub unreadable_places : List SectorView → List ℕ
unreadable_places cells = unreadable_from 0 cells

-- the sets where a sector of data alone is unreadable
abbrev pub sets_by_one : (used : Option ℕ) → (m : ℕ) → List ℕ
sets_by_one used m =
    set_of (m ∷ 31 ∷ [])
    ∷ set_of (m ∷ 29 ∷ [])
    ∷ with_used used (m ∷ [])
    ++ set_of (m ∷ 30 ∷ 31 ∷ []) ∷ []

-- those where another one behind it is
abbrev pub sets_by_two : (used : Option ℕ) → (m other : ℕ) → List ℕ
sets_by_two used m other =
    if other == 29 then with_used used (m ∷ 29 ∷ [])
    else if other == 30 then set_of (m ∷ 30 ∷ 31 ∷ []) ∷ []
    else []

-- a sector of data of segment 2 can be read and differs from its part of a block: it was left out of account
abbrev pub is_left_out : Cartridge → (block : List (List ℕ)) (sector : ℕ) → Bool
is_left_out c block sector =
    if nat_lt sector 29 then holds_other (view_at c 2 sector) (sector_at block sector) else false

-- another sector of segment 2 is to be written: one of data where it is unreadable, one of parity where it is
-- unreadable or differs from the parity of the data
abbrev pub is_unsettled : Cartridge → (block : List (List ℕ)) (sector : ℕ) → Bool
is_unsettled c block sector =
    if nat_lt sector 29 then is_unreadable (view_at c 2 sector)
    else not (holds (view_at c 2 sector) (sector_at block sector))

-- the sectors of segment 2 that can be read are those of one code block whose data show these volumes
pub record HasList (c : Cartridge) (entries : List Entry) : Type 0 where
  pub block : List (List ℕ)
  pub code : IsCodeBlock block
  pub agrees : Agrees (table_cells c) block
  pub shown : tables.Shows (data_of block) entries

-- the sectors that an append writes, in their order: the changed sector of data, and those of parity
abbrev pub table_places : (changed : ℕ) → List ℕ
table_places changed = changed ∷ 29 ∷ 30 ∷ 31 ∷ []
