-- The laws of the field and of the code, as facts. A byte is a number below 256.
use Rattle.std.specs.Prelude.{ℕ, ◌<◌, ◌≤◌, ◌≡◌, ◌≢◌, Bool, List, ◌++◌, length, All, bit_xor}
use Rattle.cartridge_spec.specs.Code.{product, power, IsCodeword, IsCodeBlock, parity, parity_sectors}
use Rattle.gf256_qic.specs.Code.{inverse, AgreesOutside, distance, lost_below}
use Rattle.qic_base.specs.Cartridge.{IsSector}

-- ---- the field

abbrev pub ProductIsByte : Type 0
ProductIsByte = (a b : ℕ) → a < 256 → b < 256 → product a b < 256

abbrev pub ProductCommutes : Type 0
ProductCommutes = (a b : ℕ) → a < 256 → b < 256 → product a b ≡ product b a

abbrev pub ProductAssociates : Type 0
ProductAssociates =
    (a b c : ℕ) → a < 256 → b < 256 → c < 256 → product (product a b) c ≡ product a (product b c)

abbrev pub ProductDistributes : Type 0
ProductDistributes = (a b c : ℕ) → product a (bit_xor b c) ≡ bit_xor (product a b) (product a c)

abbrev pub OneIsNeutral : Type 0
OneIsNeutral = (a : ℕ) → a < 256 → product 1 a ≡ a

abbrev pub InverseUndoes : Type 0
InverseUndoes = (a : ℕ) → a < 256 → a ≢ 0 → product a (inverse a) ≡ 1

-- 0x02 generates the bytes other than 0: its first power that is 1 again is that with exponent 255
pub record TwoHasOrder255 : Type 0 where
  pub full : power 2 255 ≡ 1
  pub least : (n : ℕ) → 0 < n → n < 255 → power 2 n ≢ 1

-- the powers that a root other than 1 has at different places of a column
abbrev pub PlacesDiffer : ℕ → Type 0
PlacesDiffer p = (i j : ℕ) → i < 32 → j < 32 → i ≢ j → power p i ≢ power p j

-- ---- the code

-- two different codewords of equal length differ in at least four places
abbrev pub DistanceFour : Type 0
DistanceFour =
    (cs ds : List ℕ) → IsCodeword cs → IsCodeword ds → length cs ≡ length ds → cs ≢ ds → 4 ≤ distance cs ds

-- at most one codeword agrees with a column of which at most three places are lost
abbrev pub OneCodeword : Type 0
OneCodeword =
    (lost : ℕ → Bool) (cs ds : List ℕ) → IsCodeword cs → IsCodeword ds →
    AgreesOutside lost cs ds → lost_below lost (length cs) ≤ 3 → cs ≡ ds

-- at most one code block agrees with sectors of which at most three are lost
abbrev pub OneBlock : Type 0
OneBlock =
    (lost : ℕ → Bool) (ss ts : List (List ℕ)) → IsCodeBlock ss → IsCodeBlock ts →
    AgreesOutside lost ss ts → lost_below lost (length ss) ≤ 3 → ss ≡ ts

-- data followed by its parity is a codeword
abbrev pub ParityCompletes : Type 0
ParityCompletes =
    (ds : List ℕ) → 1 ≤ length ds → length ds ≤ 29 → All (λ d. d < 256) ds → IsCodeword (ds ++ parity ds)

-- and the only one with that data
abbrev pub ParityIsOnly : Type 0
ParityIsOnly = (ds ps : List ℕ) → length ps ≡ 3 → IsCodeword (ds ++ ps) → ps ≡ parity ds

-- data sectors followed by their parity sectors are a code block
abbrev pub ParitySectorsComplete : Type 0
ParitySectorsComplete =
    (ss : List (List ℕ)) → 1 ≤ length ss → length ss ≤ 29 → All IsSector ss →
    IsCodeBlock (ss ++ parity_sectors ss)

-- and the only one with those data sectors
abbrev pub ParitySectorsAreOnly : Type 0
ParitySectorsAreOnly =
    (ss ps : List (List ℕ)) → length ps ≡ 3 → IsCodeBlock (ss ++ ps) → ps ≡ parity_sectors ss
