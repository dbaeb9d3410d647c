-- What a `Parity` stands for, in the words of the code, and how its register takes a sector.
use Rattle.std.specs.Prelude.{ℕ, ◌+◌, ◌<◌, ◌≤◌, ◌≡◌, List, [], ◌∷◌, length, All, slice_index, slice_index_or, bit_xor}
use Rattle.cartridge_spec.specs.Code.{product, column, parity, parity_sectors}
use Rattle.qic_base.specs.Cartridge.{IsSector}
use Rattle.segment_parity.specs.declared.Parity.{Parity}

-- how many sectors were pushed
abbrev pub pushed : Parity → ℕ
pushed p = p.count

-- the parity stands for these sectors, in this order: its register has their parity sectors
pub record Holds (p : Parity) (sectors : List (List ℕ)) : Type 0 where
  pub count : pushed p ≡ length sectors
  pub most : length sectors ≤ 29
  pub sectors_fit : All IsSector sectors
  pub register : p.register ≡ parity_sectors sectors

-- byte j of the row k, 0 to 2, of a register
abbrev pub at : List (List ℕ) → ℕ → ℕ → ℕ
at register k j = slice_index (slice_index_or register k []) j

-- what falls out of a column's register, added to the sector's byte
abbrev pub feedback : List (List ℕ) → List ℕ → ℕ → ℕ
feedback register sector j = bit_xor (at register 0 j) (slice_index sector j)

-- the columns below n are shifted by one place, and 0xC0, 0xC0 and 0x01 times the feedback added:
-- the remainder of the data by x^3 + 0xC0 x^2 + 0xC0 x + 1, one byte further (QIC-80-MC)
pub record Shifted (old : List (List ℕ)) (sector : List ℕ) (new : List (List ℕ)) (n : ℕ) : Type 0 where
  pub high : (j : ℕ) → j < n →
      at new 0 j ≡ bit_xor (at old 1 j) (product (feedback old sector j) 0xC0)
  pub middle : (j : ℕ) → j < n →
      at new 1 j ≡ bit_xor (at old 2 j) (product (feedback old sector j) 0xC0)
  pub low : (j : ℕ) → j < n → at new 2 j ≡ feedback old sector j

-- so many columns of three rows are the parity of those of the sectors, from the column `start` on (QIC-80-MC)
abbrev pub AreParity : List ℕ → List ℕ → List ℕ → List (List ℕ) → ℕ → ℕ → Type 0
AreParity high middle low sectors start count =
    (j : ℕ) → j < count →
    slice_index high j ∷ slice_index middle j ∷ slice_index low j ∷ [] ≡ parity (column (start + j) sectors)

-- the rows are whole, and so many of their columns, from the first on, are the parity of those of the sectors
pub record HasColumns (rows : List (List ℕ)) (sectors : List (List ℕ)) (count : ℕ) : Type 0 where
  pub high : length (slice_index_or rows 0 []) ≡ 1024
  pub middle : length (slice_index_or rows 1 []) ≡ 1024
  pub low : length (slice_index_or rows 2 []) ≡ 1024
  pub columns :
      AreParity (slice_index_or rows 0 []) (slice_index_or rows 1 []) (slice_index_or rows 2 []) sectors 0 count
