-- Laws of the places that a mask names.
use Rattle.std.proofs.Common.{◌≡◌, ℕ, zero, suc, ◌+◌, ◌*◌, ◌/◌, ◌%◌, ◌^◌, ◌<◌, ◌≤◌, [], ◌∷◌, ◌++◌, length, ◌==◌, if◌then◌else◌, add_comm}
use Rattle.std.proofs.Common.{add-one, add-zero, refl, sym, ap, ◌∙◌, arith, List}
use Rattle.std.proofs.lemmas.Nat.{ones_cat, mod-pow-add, pow_pos}
use Rattle.std.proofs.lemmas.List.{length-append, append-nil, length_push}
use Rattle.std.proofs.Math.Nat.{mod-lt, mod-one, pow-le-pow_right, div-eq_of_lt}
use Rattle.qic_base.specs.CartridgeTerms.{IsLost}
use Rattle.qic_base.specs.Cartridge.{lost_places}
use lib.Count.{ones}

-- a bit above a mask's width is 0
pub none_lost_above : (mask place : ℕ) → mask < 2 ^ 32 → 32 ≤ place → mask / 2 ^ place ≡ 0
none_lost_above mask place h l =
    let p : 2 ^ 32 ≤ 2 ^ place = pow-le-pow_right (omega arith) l in
    div-eq_of_lt (omega arith)

-- a digit is 0 or 1, and counts itself
ones_of_bit : (bit : ℕ) → bit < 2 → ones bit ≡ bit
unfolding ones
ones_of_bit zero h = refl
ones_of_bit (suc zero) h = refl
ones_of_bit (suc (suc n)) h = absurd (omega arith)

-- one more place is in the list where its bit is 1
length-lost_places_more : (mask n : ℕ) → length (lost_places mask (suc n)) ≡ length (lost_places mask n) + mask / 2 ^ n % 2
unfolding lost_places
length-lost_places_more mask n = by_bit (mask / 2 ^ n % 2) (omega arith)
  where
    by_bit : (bit : ℕ) → bit < 2 → length (lost_places mask n ++ (if bit == 1 then n ∷ [] else [])) ≡ length (lost_places mask n) + bit
    by_bit zero h = length-append (lost_places mask n) []
    by_bit (suc zero) h = length-append (lost_places mask n) (n ∷ [])
    by_bit (suc (suc m)) h = absurd (omega arith)

-- a place that is lost stands at the end of the list
pub lost_places-lost : (mask place : ℕ) → IsLost mask place → lost_places mask (place + 1) ≡ lost_places mask place ++ place ∷ []
unfolding lost_places
lost_places-lost mask place lost = rw (add-one, lost) refl

-- a place that is not lost adds nothing
pub lost_places-kept : (mask place : ℕ) → ¬ (IsLost mask place) → lost_places mask (place + 1) ≡ lost_places mask place
unfolding lost_places
lost_places-kept mask place kept =
    let bit : mask / 2 ^ place % 2 ≡ 0 = omega (arith, kept) in
    rw (add-one, bit) (append-nil (lost_places mask place))

-- where no place from n on is lost, the list of those below n is all of it
pub lost_places-above : (mask n more : ℕ) → ((place : ℕ) → IsLost mask place → place < n) → lost_places mask (n + more) ≡ lost_places mask n
lost_places-above mask n zero below = ap (lost_places mask) (add-zero n)
lost_places-above mask n (suc more) below =
    ap (lost_places mask) (omega arith)
    ∙ lost_places-kept mask (n + more) (λ lost. let b = below (n + more) lost in omega arith)
    ∙ lost_places-above mask n more below

-- as many places below n are lost as the low n bits have ones
pub length-lost_places : (mask n : ℕ) → length (lost_places mask n) ≡ ones (mask % 2 ^ n)
unfolding lost_places ones
length-lost_places mask zero = sym (ap ones (mod-one mask))
length-lost_places mask (suc n) =
    let bit : ℕ = mask / 2 ^ n % 2 in
    let digits : mask % 2 ^ (1 + n) ≡ bit * 2 ^ n + mask % 2 ^ n = mod-pow-add mask 1 n in
    let next : mask % 2 ^ suc n ≡ mask % 2 ^ (1 + n) = ap (λ (k : ℕ). mask % 2 ^ k) (omega arith) in
    length-lost_places_more mask n
    ∙ ap (λ (m : ℕ). m + bit) (length-lost_places mask n)
    ∙ ap (λ (m : ℕ). ones (mask % 2 ^ n) + m) (sym (ones_of_bit bit (omega arith)))
    ∙ add_comm (ones (mask % 2 ^ n)) (ones bit)
    ∙ sym (ones_cat n bit (mask % 2 ^ n) (mod-lt mask (pow_pos n)))
    ∙ ap ones (sym (next ∙ digits))

-- one more lost place is one more in the list
pub count_more : (mask i : ℕ) → IsLost mask i → length (lost_places mask (i + 1)) ≡ length (lost_places mask i) + 1
count_more mask i lost = ap (λ (l : List ℕ). length l) (lost_places-lost mask i lost) ∙ length_push (lost_places mask i) i

-- and one that is not lost is none
pub count_same : (mask i : ℕ) → (IsLost mask i → ⊥) → length (lost_places mask (i + 1)) ≡ length (lost_places mask i)
count_same mask i kept = ap (λ (l : List ℕ). length l) (lost_places-kept mask i kept)
