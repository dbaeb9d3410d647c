-- Whether bytes begin with a header's signature.
use Rattle.std.proofs.Common.{◌≡◌, ◌≢◌, ℕ, ◌-◌, ◌^◌, ◌<◌, ◌≤◌, nat_eq, min, false, List, [], ◌∷◌}
use Rattle.std.proofs.Common.{length, take, drop, Option, Some, None, IfSome}
use Rattle.std.proofs.Common.{refl, sym, ap, ◌∙◌, arith}
use Rattle.std.proofs.lemmas.Bool.{ne_eqb}
use Rattle.std.proofs.lemmas.List.{take_all}
use Rattle.cartridge_laws.proofs.FreshMarks.{little_endian-below}
use Rattle.cartridge_spec.specs.Header.{has_signature}
use Rattle.qic_base.specs.Disk.{AreBytes}
use Rattle.qic_base.specs.Field.{number_at, little_endian}

signature_in : (head bytes : List ℕ) (number : ℕ) → number ≡ number_at head 0 4 → take 4 head ≡ take 4 bytes →
    nat_eq number 0xAA55_AA55 ≡ has_signature (bytes ∷ [])
unfolding number_at
signature_in head bytes number is same = ap (λ (n : ℕ). nat_eq n 0xAA55_AA55) (is ∙ ap little_endian same)

-- four bytes were read
pub signature_read : (told : Option (List ℕ)) (head : List ℕ) (count number : ℕ) → count ≡ 4 → number ≡ number_at head 0 4 →
    IfSome told (λ bytes. take count head ≡ take count (drop 0 bytes)) →
    IfSome told (λ bytes. nat_eq number 0xAA55_AA55 ≡ has_signature (bytes ∷ []))
signature_read None head count number all is given = tt
signature_read (Some bytes) head count number all is given =
    signature_in head bytes number is (rw all at given)

few_bytes : (bytes : List ℕ) → AreBytes bytes → length bytes ≤ 3 → has_signature (bytes ∷ []) ≡ false
unfolding number_at
few_bytes bytes small few =
    let all : take 4 bytes ≡ take 3 bytes = take_all 4 bytes (omega arith) ∙ sym (take_all 3 bytes few) in
    let low : little_endian (take 3 bytes) < 256 ^ 3 = little_endian-below 3 bytes small in
    let same : little_endian (take 4 bytes) ≡ little_endian (take 3 bytes) = ap little_endian all in
    ne_eqb (little_endian (take 4 bytes)) 0xAA55_AA55 (λ is. absurd (omega (arith, is)))

-- there are fewer
pub signature_cut : (told : Option (List ℕ)) (count : ℕ) → count ≢ 4 → ((bytes : List ℕ) → told ≡ Some bytes → AreBytes bytes) →
    IfSome told (λ bytes. count ≡ min 4 (length bytes - 0)) →
    IfSome told (λ bytes. nat_eq count 4 ≡ has_signature (bytes ∷ []))
signature_cut None count short right amount = tt
signature_cut (Some bytes) count short right amount =
    ne_eqb count 4 short ∙ sym (few_bytes bytes (right bytes refl) (omega (arith, amount, short)))
