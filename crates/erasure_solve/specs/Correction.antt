-- The corrections at three places of a segment that make its columns codewords. A place's degree is the
-- number of places behind it; degrees from 32 on are those of no place.
use Rattle.std.specs.Prelude.{◌≡◌, ◌≢◌, ℕ, ◌+◌, ◌-◌, ◌<◌, ◌≤◌, true, List, [], ◌∷◌, length, slice_index, slice_index_or, slice_set, bit_xor}
use Rattle.std.specs.Prelude.{All}
use Rattle.cartridge_spec.specs.Code.{product, power, value_at, column}
use Rattle.gf256_qic.specs.Code.{inverse}
use Rattle.qic_base.specs.Cartridge.{IsSector}
use Rattle.erasure_solve.specs.Rows.{IsZero, AddsRow}
use Rattle.qic_base.specs.CartridgeTerms.{is_lost}

-- x / ((x + y) * (x + z))
unfoldable pub scale : ℕ → ℕ → ℕ → ℕ
scale x y z = product x (product (inverse (bit_xor x y)) (inverse (bit_xor x z)))

-- the first of three bytes, at places of the powers x, y and z, whose terms add up to the values s at
-- r^-1, t at 1 and u at r
unfoldable pub correction : ℕ → ℕ → ℕ → ℕ → ℕ → ℕ → ℕ
correction x y z s t u =
    product (scale x y z) (bit_xor (product (product y z) s) (bit_xor (product (bit_xor y z) t) u))

-- the factors of the values in it
abbrev pub correction_factors : ℕ → ℕ → ℕ → List ℕ
correction_factors x y z =
    product (scale x y z) (product y z) ∷ product (scale x y z) (bit_xor y z) ∷ scale x y z ∷ []

-- what is added to the sector at the place of a degree, byte by byte
pub record Correction : Type 0 where
  pub degree : ℕ
  pub bytes : List ℕ

-- the corrections at three places of different degrees: the lost ones, and where fewer than three are lost,
-- degrees of no place
pub record Corrections : Type 0 where
  pub first : Correction
  pub second : Correction
  pub third : Correction

-- the corrections at the place of degree d, where the other two have e and f
pub record IsCorrection (sectors : List (List ℕ)) (d e f : ℕ) (row : List ℕ) : Type 0 where
  pub each : (j : ℕ) → j < 1024 →
      slice_index row j ≡ correction (power 2 d) (power 2 e) (power 2 f)
      (value_at 0xC3 (column j sectors)) (value_at 0x01 (column j sectors)) (value_at 0x02 (column j sectors))

-- three different degrees: those of the lost places, and for the rest degrees of no place
pub record AreDegrees (mask count : ℕ) (degrees : List ℕ) : Type 0 where
  pub size : length degrees ≡ 3
  pub small : (k : ℕ) → k < 3 → slice_index degrees k < 35
  pub apart : (k l : ℕ) → k < 3 → l < 3 → k ≢ l → slice_index degrees k ≢ slice_index degrees l
  pub within : (k : ℕ) → k < 3 → slice_index degrees k < 32 → slice_index degrees k < count
  pub of_lost : (k place : ℕ) → k < 3 → slice_index degrees k + place + 1 ≡ count →
      is_lost mask place ≡ true
  pub all : (place : ℕ) → place < count → is_lost mask place ≡ true →
      (k : ℕ) × (k < 3) × (slice_index degrees k + place + 1 ≡ count)

-- the corrections that make the sectors a code block
pub record Found (mask : ℕ) (sectors : List (List ℕ)) (corrections : Corrections) : Type 0 where
  pub sectors_fit : All IsSector sectors
  pub degrees : AreDegrees mask (length sectors)
      (corrections.first.degree ∷ corrections.second.degree ∷ corrections.third.degree ∷ [])
  pub first : IsCorrection sectors
      corrections.first.degree corrections.second.degree corrections.third.degree corrections.first.bytes
  pub second : IsCorrection sectors
      corrections.second.degree corrections.first.degree corrections.third.degree corrections.second.bytes
  pub third : IsCorrection sectors
      corrections.third.degree corrections.first.degree corrections.second.degree corrections.third.bytes

-- a correction that can be made
pub record FitsDegree (degree : ℕ) (row : List ℕ) : Type 0 where
  pub nothing : 32 ≤ degree → IsZero row

pub record Agree (corrections : Corrections) : Type 0 where
  pub first : FitsDegree corrections.first.degree corrections.first.bytes
  pub second : FitsDegree corrections.second.degree corrections.second.bytes
  pub third : FitsDegree corrections.third.degree corrections.third.bytes

-- the sector at the place of a degree was changed, if there is one
pub record Applied (degree : ℕ) (row : List ℕ) (old new : List (List ℕ)) : Type 0 where
  pub beyond : 32 ≤ degree → new ≡ old
  pub within : degree < 32 →
      (sector : List ℕ) × (new ≡ slice_set old (length old - 1 - degree) sector)
      × AddsRow row (slice_index_or old (length old - 1 - degree) sector) sector

pub record AllApplied (corrections : Corrections) (old new : List (List ℕ)) : Type 0 where
  pub once : List (List ℕ)
  pub twice : List (List ℕ)
  pub first : Applied corrections.first.degree corrections.first.bytes old once
  pub second : Applied corrections.second.degree corrections.second.bytes once twice
  pub third : Applied corrections.third.degree corrections.third.bytes twice new
