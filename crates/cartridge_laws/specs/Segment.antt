-- Sectors of a segment: sets of them, those of data, and those that can't be read or are seen so (the views are this project's
-- profile).
use Rattle.std.specs.Prelude.{◌≡◌, true, ℕ, List, ◌-◌, Bool, filter, take, length, All}
use Rattle.cartridge_spec.specs.Shape.{is_unreadable, usable_places}
use Rattle.qic_base.specs.declared.tape.SectorView.{SectorView}
use Rattle.std.specs.List.{range_with_len}
use Rattle.cartridge_spec.specs.Says.{HasNoBlock, hidden_from, unreadable_count}

abbrev pub IsUnreadable : SectorView → Type 0
IsUnreadable view = is_unreadable view ≡ true

-- the sectors 0 to 31 whose bits are 1, in ascending order
abbrev pub sectors_of : ℕ → List ℕ
sectors_of bits = usable_places bits

-- the sectors of a block before its three of parity
abbrev pub data_of : List (List ℕ) → List (List ℕ)
data_of block = take (length block - 3) block

-- the cells, with those at the places of a set seen as lost
abbrev pub hidden : ℕ → List SectorView → List SectorView
hidden set cells = hidden_from set 0 cells

-- no code block agrees with the cells, whichever of these sets is left out of account
abbrev pub HasNoBlocks : List ℕ → List SectorView → Type 0
HasNoBlocks sets cells = All (λ set. HasNoBlock (hidden set cells)) sets

-- the unreadable ones among the 29 data sectors of the volume table's segment
abbrev pub unreadable_data : List SectorView → ℕ
unreadable_data cells = unreadable_count (take 29 cells)

-- the places 0 to 31 where a test is true, ascending
abbrev pub places_where : (ℕ → Bool) → List ℕ
places_where test = filter test (range_with_len 0 32)
