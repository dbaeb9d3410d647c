-- The bytes of sectors, one after the other.
use Rattle.std.proofs.Common.{◌≡◌, ℕ, suc, ◌+◌, ◌-◌, ◌*◌, ◌/◌, ◌%◌, ◌<◌, ◌≤◌, List, [], ◌∷◌, ◌++◌, length, get_or, refl, sym, ap, ◌∙◌}
use Rattle.std.proofs.Common.{⊎_elim, arith, length-append}
use Rattle.std.proofs.lemmas.Bool.{cases_lt}
use Rattle.std.proofs.lemmas.List.{get_or_append_left, get_or-append_right}
use Rattle.std.proofs.lemmas.Option.{unwrap_or-slice_get}
use Rattle.cartridge_laws.specs.HeaderTerms.{byte_in}
use Rattle.cartridge_spec.specs.Volumes.{bytes_in}

-- each has 1,024 bytes
abbrev pub AreLong : List (List ℕ) → Type 0
AreLong area = (k : ℕ) → k < length area → length (get_or area k []) ≡ 1024

AreLong-tail : (sector : List ℕ) (area : List (List ℕ)) → AreLong (sector ∷ area) → AreLong area
AreLong-tail sector area long k here = long (suc k) (omega arith)

pub length-bytes_in : (area : List (List ℕ)) → AreLong area → length (bytes_in area) ≡ 1024 * length area
length-bytes_in [] long = refl
length-bytes_in (sector ∷ area) long =
    let both : length (sector ++ bytes_in area) ≡ length sector + length (bytes_in area) = length-append sector (bytes_in area) in
    let first : length sector ≡ 1024 = long 0 (omega arith) in
    let rest : length (bytes_in area) ≡ 1024 * length area = length-bytes_in area (AreLong-tail sector area long) in
    omega arith

get_or-bytes_in : (area : List (List ℕ)) (k : ℕ) → AreLong area → k < 1024 * length area →
    get_or (get_or area (k / 1024) []) (k % 1024) 0 ≡ get_or (bytes_in area) k 0
get_or-bytes_in [] k long here = absurd (omega arith)
get_or-bytes_in (sector ∷ area) k long here = ⊎_elim first
    (λ high. rest high (get_or-bytes_in area (k - 1024) (AreLong-tail sector area long) (omega arith))) (cases_lt k 1024) where
      size : length sector ≡ 1024
      size = long 0 (omega arith)

      first : k < 1024 → get_or (get_or (sector ∷ area) (k / 1024) []) (k % 1024) 0 ≡ get_or (sector ++ bytes_in area) k 0
      first low =
          let at : k / 1024 ≡ 0 = omega arith in
          let place : k % 1024 ≡ k = omega arith in
          let s = size in
          rw (at, place) (sym (get_or_append_left sector (bytes_in area) 0 k (omega arith)))

      rest : 1024 ≤ k → get_or (get_or area ((k - 1024) / 1024) []) ((k - 1024) % 1024) 0 ≡ get_or (bytes_in area) (k - 1024) 0 →
          get_or (get_or (sector ∷ area) (k / 1024) []) (k % 1024) 0 ≡ get_or (sector ++ bytes_in area) k 0
      rest high behind =
          let at : k / 1024 ≡ suc ((k - 1024) / 1024) = omega arith in
          let place : k % 1024 ≡ (k - 1024) % 1024 = omega arith in
          rw (at, place) (behind ∙ sym (get_or-append_right sector (bytes_in area) 1024 k 0 size high))

pub byte_is : (area : List (List ℕ)) (k : ℕ) → AreLong area → k < 1024 * length area → byte_in area k ≡ get_or (bytes_in area) k 0
byte_is area k long here =
    ap (λ (sector : List ℕ). get_or sector (k % 1024) 0) (unwrap_or-slice_get area (k / 1024) []) ∙ get_or-bytes_in area k long here
