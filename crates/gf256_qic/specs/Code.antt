-- The code of QIC-80 over byte columns (QIC-80-MC). A column has a byte of each usable sector of a segment, in
-- order of index; as a polynomial its first byte has the highest degree, and its last three bytes are parity.
use Rattle.std.specs.Prelude.{ℕ, ◌+◌, cond, List, [], ◌∷◌, map, bit_xor, ◌==◌, zero, suc, Bool, ◌<◌, ◌≡◌, false, length, slice_get}
use Rattle.std.specs.Prelude.{slice_index}
use Rattle.std.specs.List.{range_with_len}
use Rattle.cartridge_spec.specs.Code.{IsCodeBlock, product, power, added, lagrange, parity, column}

-- x^8 + x^7 + x^2 + x + 1 (QIC-80-MC)
abbrev pub modulus : ℕ
modulus = 0x187

-- the byte whose product with a, which is not 0, is 1: a to the power 254, since to 255 it is 1
unfoldable pub inverse : ℕ → ℕ
inverse a = power a 254

-- the sum S(p) of d_i * p^(n-1-i) over the data bytes d_0 to d_(n-4) of a column of n bytes
unfoldable pub data_sum : ℕ → List ℕ → ℕ
data_sum p [] = 0
data_sum p (d ∷ ds) = bit_xor (product d (power p (length ds + 3))) (data_sum p ds)

-- a polynomial times a byte
abbrev pub scaled : ℕ → List ℕ → List ℕ
scaled a = map (product a)

-- the polynomial of degree below 3 with the values a at r^-1, b at 1 and c at r, in Lagrange's form
unfoldable pub through : ℕ → ℕ → ℕ → List ℕ
through a b c =
    added (map (product a) (lagrange 0xC3 0x01 0x02))
    (added (map (product b) (lagrange 0x01 0xC3 0x02)) (map (product c) (lagrange 0x02 0xC3 0x01)))

-- the parity sector k of three, 0 to 2: byte j is the parity byte k of column j
unfoldable pub parity_sector : List (List ℕ) → ℕ → List ℕ
parity_sector sectors k = map (λ j. slice_index (parity (column j sectors)) k) (range_with_len 0 1024)

-- at how many places two columns of equal length differ
unfoldable pub distance : List ℕ → List ℕ → ℕ
distance (x ∷ xs) (y ∷ ys) = cond (x == y) 0 1 + distance xs ys
distance xs ys = 0

-- how many places below n are lost (this project's profile, as what follows)
unfoldable pub lost_below : (ℕ → Bool) → ℕ → ℕ
lost_below lost zero = 0
lost_below lost (suc n) = cond (lost n) 1 0 + lost_below lost n

-- the two lists are equally long, and equal at each place that is not lost
pub record AgreesOutside {A : Type 0} (lost : ℕ → Bool) (xs ys : List A) : Type 0 where
  pub size : length xs ≡ length ys
  pub others : (i : ℕ) → i < length xs → lost i ≡ false → slice_get xs i ≡ slice_get ys i

-- some code block agrees with the sectors that are not lost
pub record IsSolvable (lost : ℕ → Bool) (sectors : List (List ℕ)) : Type 0 where
  pub block : List (List ℕ)
  pub codewords : IsCodeBlock block
  pub agrees : AgreesOutside lost sectors block
