-- The segments of a dump, as cells of an image (this project's own).
use Rattle.std.specs.Prelude.{◌≡◌, ℕ, ◌+◌, ◌*◌, ◌<◌, ◌==◌, ◌&&◌, nat_le, Bool, false, List, [], length, map, slice_index_or}
use Rattle.std.specs.Prelude.{if◌then◌else◌}
use Rattle.std.specs.Int.{bit_at}
use Rattle.std.specs.List.{flat_map, range_with_len}
use Rattle.qic_base.specs.Cartridge.{zero_sector}
use Rattle.qic_base.specs.declared.tape.SectorView.{SectorView}
use Rattle.qic_base.specs.declared.tape.SectorView.TheVariants.{Lost, Holds}
use Rattle.cart_image.specs.Layout.{formed_cell}

-- cells, one behind the other
abbrev pub joined : List (List ℕ) → List ℕ
joined cells = flat_map (λ cell. cell) cells

-- ---- a segment of a dump

-- the sector with this index was rescued, by the segment's word, and all its bytes are among the segment's first ones
abbrev pub is_held : (word len index : ℕ) → Bool
is_held word len index = bit_at word index == 1 && nat_le (1024 * index + 1024) len

abbrev pub cell_in : (word len : ℕ) (sectors : List (List ℕ)) (index : ℕ) → List ℕ
cell_in word len sectors index = formed_cell (is_held word len index) (slice_index_or sectors index [])

abbrev pub view_in : (word len : ℕ) (sectors : List (List ℕ)) (index : ℕ) → SectorView
view_in word len sectors index = if is_held word len index then Holds (slice_index_or sectors index []) else Lost

-- the cells of a segment of which so many bytes came, and what they are read as
unfoldable pub cells_of : (word len : ℕ) (sectors : List (List ℕ)) → List (List ℕ)
cells_of word len sectors = map (cell_in word len sectors) (range_with_len 0 32)

unfoldable pub views_of : (word len : ℕ) (sectors : List (List ℕ)) → List SectorView
views_of word len sectors = map (view_in word len sectors) (range_with_len 0 32)

-- each sector has its 1,024 bytes
abbrev pub AreWhole : (sectors : List (List ℕ)) → Type 0
AreWhole sectors = (index : ℕ) → index < 32 → length (slice_index_or sectors index []) ≡ 1024

-- the cell of a lost sector that the dump doesn't reach
abbrev pub lost_cell : List ℕ
lost_cell = formed_cell false zero_sector
