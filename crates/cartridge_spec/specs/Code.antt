-- The field of 256 elements and the code of QIC-80 over byte columns (QIC-80-MC). A byte is a polynomial over two
-- elements of degree below 8, bit i its coefficient of x^i; the sum of two bytes is their exclusive or, `bit_xor`. A
-- column has a byte of each usable sector of a segment, in order of index; as a polynomial its first byte has the
-- highest degree, and its last three bytes are parity.
use Rattle.std.specs.Prelude.{ℕ, zero, suc, ◌*◌, ◌^◌, List, [], ◌∷◌, length, bit_xor, ◌<◌, ◌≤◌, ◌≡◌, All, map, slice_index, ◌+◌, ◌++◌}
use Rattle.std.specs.Int.{bit_at}
use Rattle.std.specs.List.{range_with_len}
use Rattle.qic_base.specs.Cartridge.{IsSector}

-- the sum of the copies of a shifted by i, one for each bit i below k that b has
unfoldable pub shifted_copies : ℕ → ℕ → ℕ → ℕ
shifted_copies zero a b = 0
shifted_copies (suc k) a b = bit_xor (shifted_copies k a b) (bit_at b k * (a * 2 ^ k))

-- the remainder by x^8 + x^7 + x^2 + x + 1 (QIC-80-MC) of a, of degree below 8 + k: long division, the highest degree
-- first
unfoldable pub remainder : ℕ → ℕ → ℕ
remainder zero a = a
remainder (suc k) a = remainder k (bit_xor a (bit_at a (8 + k) * (0x187 * 2 ^ k)))

-- the product of two bytes (QIC-80-MC)
unfoldable pub product : ℕ → ℕ → ℕ
product a b = remainder 7 (shifted_copies 8 a b)

-- the product of n factors a
unfoldable pub power : ℕ → ℕ → ℕ
power a zero = 1
power a (suc n) = product a (power a n)

-- ---- the code

-- the sum of c_i * p^(n-1-i) over the bytes c_0 to c_(n-1): the column's value at p
unfoldable pub value_at : ℕ → List ℕ → ℕ
value_at p [] = 0
value_at p (c ∷ cs) = bit_xor (product c (power p (length cs))) (value_at p cs)

-- a column without fault: its value is 0 at r^-1, 1 and r, where r is 0x02 (QIC-80-MC)
pub record IsCodeword (cs : List ℕ) : Type 0 where
  pub least : 4 ≤ length cs
  pub most : length cs ≤ 32
  pub bytes : All (λ c. c < 256) cs
  pub at_inverse : value_at 0xC3 cs ≡ 0
  pub at_one : value_at 0x01 cs ≡ 0
  pub at_generator : value_at 0x02 cs ≡ 0

-- byte j of each sector
unfoldable pub column : ℕ → List (List ℕ) → List ℕ
column j sectors = map (λ s. slice_index s j) sectors

-- sectors of which each byte column is a codeword (QIC-80-MC)
pub record IsCodeBlock (ss : List (List ℕ)) : Type 0 where
  pub sectors : All IsSector ss
  pub columns : (j : ℕ) → j < 1024 → IsCodeword (column j ss)

-- the sum of two polynomials with equally many coefficients, the highest degree first
unfoldable pub added : List ℕ → List ℕ → List ℕ
added (x ∷ xs) (y ∷ ys) = bit_xor x y ∷ added xs ys
added xs ys = []

-- (x + q) / (p + q) times (x + r) / (p + r): the polynomial that is 1 at p, and 0 at q and at r; 1 / a is a to the
-- power 254, since a to the power 255 is 1
unfoldable pub lagrange : ℕ → ℕ → ℕ → List ℕ
lagrange p q r = map (product (product (power (bit_xor p q) 254) (power (bit_xor p r) 254))) (1 ∷ bit_xor q r ∷ product q r ∷ [])

-- the three parity bytes of a column's data (QIC-80-MC): the coefficients of the polynomial of degree below 3 that has,
-- at r^-1, 1 and r, the values of the data with three zero bytes behind them, in Lagrange's form
unfoldable pub parity : List ℕ → List ℕ
parity ds =
    let longer : List ℕ = ds ++ 0 ∷ 0 ∷ 0 ∷ [] in
    added (map (product (value_at 0xC3 longer)) (lagrange 0xC3 0x01 0x02))
    (added (map (product (value_at 0x01 longer)) (lagrange 0x01 0xC3 0x02))
    (map (product (value_at 0x02 longer)) (lagrange 0x02 0xC3 0x01)))

-- the three parity sectors of data sectors (QIC-80-MC): byte j of sector k is the parity byte k of column j
unfoldable pub parity_sectors : List (List ℕ) → List (List ℕ)
parity_sectors sectors = map (λ k. map (λ j. slice_index (parity (column j sectors)) k) (range_with_len 0 1024)) (0 ∷ 1 ∷ 2 ∷ [])
