-- The bytes of an area, and the numbers in its fields.
use Rattle.std.proofs.Common.{◌≡◌, ℕ, ◌-◌, ◌<◌, List, [], length, set, ◌∙◌, get_or-set_same, ◌≢◌, sym, get_or-set_other, ◌⊎◌, inl, inr, ◌+◌}
use Rattle.std.proofs.Common.{◌*◌, ◌/◌, ◌%◌, ◌≤◌, get_or, ap, arith, zero, suc, take, drop, refl, ◌∷◌}
use Rattle.std.proofs.lemmas.Option.{unwrap_or-slice_get}
use Rattle.std.proofs.lemmas.Bool.{cases_eq, cases_lt}
use Rattle.cartridge_laws.specs.HeaderTerms.{byte_in, IsInMap}
use Rattle.cartridge_spec.specs.Header.{number_in, word_in}
use Rattle.cartridge_spec.specs.Shape.{sector_at}
use Rattle.qic_base.proofs.FieldLaws.{get_or-overwritten_below, get_or-overwritten_above, length-little_endian_bytes}
use Rattle.qic_base.specs.Field.{little_endian_bytes, overwritten, little_endian, number_at}

-- ---- a sector of the area is written

pub sector_at-set_same : (area : List (List ℕ)) (s : ℕ) (sector : List ℕ) → s < length area → sector_at (set area s sector) s ≡ sector
sector_at-set_same area s sector h = unwrap_or-slice_get (set area s sector) s [] ∙ get_or-set_same area s sector [] h

pub sector_at-set_other : (area : List (List ℕ)) (s t : ℕ) (sector : List ℕ) → t ≢ s → sector_at (set area s sector) t ≡ sector_at area t
sector_at-set_other area s t sector h =
    unwrap_or-slice_get (set area s sector) t [] ∙ get_or-set_other area s t sector [] h ∙ sym (unwrap_or-slice_get area t [])

-- a byte that is not one of the word's four stays
pub byte_in-other_word : (area : List (List ℕ)) (bytes sector : List ℕ) (segment word k : ℕ) → 2 + segment / 256 < length area →
    sector ≡ get_or area (2 + segment / 256) [] → 4 * (segment % 256) + 4 ≤ length sector →
    bytes ≡ overwritten sector (4 * (segment % 256)) (little_endian_bytes 4 word) →
    (IsInMap (segment + 1) k → IsInMap segment k) →
    byte_in (set area (2 + segment / 256) bytes) k ≡ byte_in area k
byte_in-other_word area bytes sector segment word k there is long written outside = by_sector (cases_eq (k / 1024) (2 + segment / 256))
  where
    s : ℕ
    s = 2 + segment / 256

    old : k / 1024 ≡ 2 + segment / 256 → sector_at area (k / 1024) ≡ sector
    old same = unwrap_or-slice_get area (k / 1024) [] ∙ ap (λ (i : ℕ). get_or area i []) same ∙ sym is

    new : k / 1024 ≡ 2 + segment / 256 → sector_at (set area (2 + segment / 256) bytes) (k / 1024) ≡ bytes
    new same = ap (sector_at (set area (2 + segment / 256) bytes)) same ∙ sector_at-set_same area (2 + segment / 256) bytes there

    not_within : k / 1024 ≡ 2 + segment / 256 → 4 * (segment % 256) ≤ k % 1024 → 4 * (segment % 256) + 4 ≤ k % 1024
    not_within same from = by_end (cases_lt (k % 1024) (4 * (segment % 256) + 4))
      where
        by_end : (k % 1024 < 4 * (segment % 256) + 4) ⊎ (4 * (segment % 256) + 4 ≤ k % 1024) → 4 * (segment % 256) + 4 ≤ k % 1024
        by_end (inr past) = past
        by_end (inl before) =
            let within = outside (omega arith, omega arith) in
            let below : k < 2048 + 4 * segment = within.1 in
            absurd (omega arith)

    by_place : k / 1024 ≡ 2 + segment / 256 → (k % 1024 < 4 * (segment % 256)) ⊎ (4 * (segment % 256) ≤ k % 1024) →
        get_or bytes (k % 1024) 0 ≡ get_or sector (k % 1024) 0
    by_place same (inl below) = ap (λ (xs : List ℕ). get_or xs (k % 1024) 0) written
        ∙ get_or-overwritten_below sector (little_endian_bytes 4 word) (4 * (segment % 256)) (k % 1024) 0 (omega arith) below
    by_place same (inr from) =
        let past : 4 * (segment % 256) + 4 ≤ k % 1024 = not_within same from in
        ap (λ (xs : List ℕ). get_or xs (k % 1024) 0) written
        ∙ get_or-overwritten_above sector (little_endian_bytes 4 word) (4 * (segment % 256)) (k % 1024) 0 (omega arith)
        (omega (arith, length-little_endian_bytes 4 word))

    by_sector : (k / 1024 ≡ 2 + segment / 256) ⊎ (k / 1024 ≢ 2 + segment / 256) →
        byte_in (set area (2 + segment / 256) bytes) k ≡ byte_in area k
    by_sector (inl same) =
        ap (λ (xs : List ℕ). get_or xs (k % 1024) 0) (new same)
        ∙ by_place same (cases_lt (k % 1024) (4 * (segment % 256)))
        ∙ ap (λ (xs : List ℕ). get_or xs (k % 1024) 0) (sym (old same))
    by_sector (inr other) = ap (λ (xs : List ℕ). get_or xs (k % 1024) 0)
        (sector_at-set_other area (2 + segment / 256) (k / 1024) bytes other)

-- ---- the number in a field by its bytes

little_endian-none : (width n : ℕ) → little_endian (take width (drop n [])) ≡ 0
little_endian-none zero n = refl
little_endian-none (suc width) zero = refl
little_endian-none (suc width) (suc n) = refl

-- a byte, and the number in the bytes behind it
little_endian-take : (xs : List ℕ) (at width : ℕ) → little_endian (take (suc width) (drop at xs)) ≡ get_or xs at 0 + 256 * little_endian
    (take width (drop (at + 1) xs))
little_endian-take [] at width =
    little_endian-none (suc width) at ∙ sym (ap (λ (n : ℕ). 0 + 256 * n) (little_endian-none width (at + 1)))
little_endian-take (x ∷ xs) zero width = refl
little_endian-take (x ∷ xs) (suc at) width =
    let next : suc at + 1 ≡ suc (at + 1) = omega arith in
    little_endian-take xs at width
    ∙ ap (λ (n : ℕ). get_or xs at 0 + 256 * little_endian (take width (drop n (x ∷ xs)))) (sym next)

number-same : (xs ys : List ℕ) (width at : ℕ) → ((j : ℕ) → at ≤ j → j < at + width → get_or xs j 0 ≡ get_or ys j 0) →
    little_endian (take width (drop at xs)) ≡ little_endian (take width (drop at ys))
number-same xs ys zero at same = refl
number-same xs ys (suc width) at same =
    little_endian-take xs at width
    ∙ rw (same at (omega arith) (omega arith), number-same xs ys width (at + 1) (λ j from below. same j (omega arith) (omega arith))) refl
    ∙ sym (little_endian-take ys at width)

-- a number whose bytes stay stays; no field lies in two sectors
number_in-same : (area other : List (List ℕ)) (offset width : ℕ) → offset % 1024 + width ≤ 1024 →
    ((k : ℕ) → offset ≤ k → k < offset + width → byte_in other k ≡ byte_in area k) →
    number_in other offset width ≡ number_in area offset width
unfolding number_at
number_in-same area other offset width within same =
    let wide : offset % 1024 + width - offset % 1024 ≡ width = omega arith in
    rw wide
    (number-same (sector_at other (offset / 1024)) (sector_at area (offset / 1024)) width (offset % 1024)
    (λ j from below. byte j from below))
  where
    byte : (j : ℕ) → offset % 1024 ≤ j → j < offset % 1024 + width → get_or (sector_at other (offset / 1024)) j 0 ≡ get_or
        (sector_at area (offset / 1024)) j 0
    byte j from below =
        let k : ℕ = 1024 * (offset / 1024) + j in
        let quotient : (1024 * (offset / 1024) + j) / 1024 ≡ offset / 1024 = omega arith in
        let rest : (1024 * (offset / 1024) + j) % 1024 ≡ j = omega arith in
        let here : byte_in other (1024 * (offset / 1024) + j) ≡ byte_in area (1024 * (offset / 1024) + j) =
        same (1024 * (offset / 1024) + j) (omega arith) (omega arith) in
        rw (quotient, rest) at here

pub IsInMap-more : (n k : ℕ) → IsInMap n k → IsInMap (n + 1) k
IsInMap-more n k h = (h.0, let b = h.1 in omega arith)

-- the words before a word that is written stay
pub word_in-others : (area other : List (List ℕ)) (segment s : ℕ) →
    ((k : ℕ) → (IsInMap (segment + 1) k → IsInMap segment k) → byte_in other k ≡ byte_in area k) →
    s < segment → word_in other s ≡ word_in area s
word_in-others area other segment s same below =
    number_in-same area other (2048 + 4 * s) 4 (omega arith)
    (λ k from before. same k (λ within. (omega arith, omega arith)))
