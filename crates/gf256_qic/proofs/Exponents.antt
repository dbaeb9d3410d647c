-- The tables of logarithms and powers, and calculating with exponents.
use Rattle.std.proofs.Common.{◌≡◌, ◌≢◌, ℕ, zero, suc, ◌+◌, ◌-◌, ◌*◌, ◌/◌, ◌%◌, ◌<◌, refl, sym, ◌∙◌, ap, arith, bit_xor, bit_and, true, ◌&&◌}
use Rattle.std.proofs.Common.{nat_eq, nat_lt, get_or}
use Rattle.std.proofs.lemmas.Bool.{eqb-true, ltb-true, and_parts}
use Rattle.gf256_qic.specs.declared.logarithms.TheConstants.{POWERS, LOGARITHMS}
use Rattle.cartridge_spec.specs.Code.{shifted_copies, remainder, product, power}
use Rattle.gf256_qic.proofs.Tables.{all_below, all_below_at}
use Rattle.gf256_qic.proofs.Products.{product_one_left, product_zero_left}
use Rattle.gf256_qic.proofs.Powers.{power_none, power_more, power_byte, power_sum}
use Rattle.gf256_qic.proofs.Distance.{power_of_one}

-- ---- the tables

powers_in_turn : all_below 254 (λ n. nat_eq (get_or POWERS (suc n) 0) (product 2 (get_or POWERS n 0))) ≡ true
unfolding product shifted_copies remainder all_below
powers_in_turn = refl

logarithms_undone :
    all_below 255 (λ n. nat_lt (get_or LOGARITHMS (suc n) 0) 255 && nat_eq (get_or POWERS (get_or LOGARITHMS (suc n) 0) 0) (suc n)) ≡ true
unfolding all_below
logarithms_undone = refl

order : product 2 (get_or POWERS 254 0) ≡ 1
unfolding product shifted_copies remainder
order = refl

powers_entry : (n : ℕ) → n < 255 → get_or POWERS n 0 ≡ power 2 n
powers_entry zero h = sym (power_none 2)
powers_entry (suc n) h =
    eqb-true (get_or POWERS (suc n) 0) (product 2 (get_or POWERS n 0))
    (all_below_at 254 (λ k. nat_eq (get_or POWERS (suc k) 0) (product 2 (get_or POWERS k 0))) powers_in_turn n (omega arith))
    ∙ ap (product 2) (powers_entry n (omega arith))
    ∙ sym (power_more 2 n)

-- an entry of the other table, and what it is the logarithm of
record IsLogarithm (n a : ℕ) : Type 0 where
  within : n < 255
  power_is : get_or POWERS n 0 ≡ a

logarithms_entry : (a : ℕ) → a < 256 → a ≢ 0 → IsLogarithm (get_or LOGARITHMS a 0) a
logarithms_entry zero h other = absurd (other refl)
logarithms_entry (suc n) h other =
    let l : ℕ = get_or LOGARITHMS (suc n) 0 in
    let parts : (nat_lt l 255 ≡ true) × (nat_eq (get_or POWERS l 0) (suc n) ≡ true) =
    and_parts (nat_lt l 255) (nat_eq (get_or POWERS l 0) (suc n))
    (all_below_at 255
    (λ k. nat_lt (get_or LOGARITHMS (suc k) 0) 255 && nat_eq (get_or POWERS (get_or LOGARITHMS (suc k) 0) 0) (suc k))
    logarithms_undone n (omega arith)) in
    record { within = ltb-true l 255 parts.0; power_is = eqb-true (get_or POWERS l 0) (suc n) parts.1 }

pub logarithm-within : (a : ℕ) → a < 256 → a ≢ 0 → get_or LOGARITHMS a 0 < 255
logarithm-within a h other = (logarithms_entry a h other).within

pub power-logarithm : (a : ℕ) → a < 256 → a ≢ 0 → power 2 (get_or LOGARITHMS a 0) ≡ a
power-logarithm a h other =
    sym (powers_entry (get_or LOGARITHMS a 0) (logarithm-within a h other)) ∙ (logarithms_entry a h other).power_is

-- ---- exponents

power_255 : power 2 255 ≡ 1
power_255 = power_more 2 254 ∙ ap (product 2) (sym (powers_entry 254 (omega arith))) ∙ order

-- the powers of a power
pub power_product : (a m n : ℕ) → a < 256 → power a (m * n) ≡ power (power a m) n
power_product a m zero h =
    let none : m * 0 ≡ 0 = omega arith in ap (power a) none ∙ power_none a ∙ sym (power_none (power a m))
power_product a m (suc n) h =
    let more : m * suc n ≡ m + m * n = omega arith in
    ap (power a) more ∙ power_sum a m (m * n) h
    ∙ ap (product (power a m)) (power_product a m n h)
    ∙ sym (power_more (power a m) n)

-- an exponent counts by its remainder by the order alone
power_remainder : (n : ℕ) → power 2 (n % 255) ≡ power 2 n
power_remainder n =
    let two : 2 < 256 = omega arith in
    let parts : n ≡ 255 * (n / 255) + n % 255 = omega arith in
    let rest : power 2 (n % 255) < 256 = power_byte 2 (n % 255) two in
    sym (
    ap (power 2) parts
    ∙ power_sum 2 (255 * (n / 255)) (n % 255) two
    ∙ ap (λ v. product v (power 2 (n % 255)))
    (power_product 2 255 (n / 255) two ∙ ap (λ v. power v (n / 255)) power_255 ∙ power_of_one (n / 255))
    ∙ product_one_left (power 2 (n % 255)) rest)

pub powers_at : (n : ℕ) → get_or POWERS (n % 255) 0 ≡ power 2 n
powers_at n = powers_entry (n % 255) (omega arith) ∙ power_remainder n

-- ---- products, inverses and powers by exponents

pub product_by_exponents : (m n : ℕ) → power 2 (m + n) ≡ product (power 2 m) (power 2 n)
product_by_exponents m n = power_sum 2 m n (omega arith)

pub inverse_by_exponent : (m : ℕ) → m < 255 → product (power 2 m) (power 2 (255 - m)) ≡ 1
inverse_by_exponent m h =
    let whole : m + (255 - m) ≡ 255 = omega arith in
    sym (power_sum 2 m (255 - m) (omega arith)) ∙ ap (power 2) whole ∙ power_255

pub power_of_zero : (n : ℕ) → n ≢ 0 → power 0 n ≡ 0
power_of_zero zero other = absurd (other refl)
power_of_zero (suc n) other = power_more 0 n ∙ product_zero_left (power 0 n)

-- ---- shifts, where a bit's copies stand for a branch

masks : all_below 256 (λ x. nat_eq ((0 + (256 - bit_and x 1)) % 256) (255 * (x % 2))) ≡ true
unfolding all_below
masks = refl

pub mask_is : (a : ℕ) → a < 256 → (0 + (256 - bit_and a 1)) % 256 ≡ 255 * (a % 2)
mask_is a h =
    eqb-true ((0 + (256 - bit_and a 1)) % 256) (255 * (a % 2))
    (all_below_at 256 (λ x. nat_eq ((0 + (256 - bit_and x 1)) % 256) (255 * (x % 2))) masks a h)

doubles : all_below 256 (λ a. nat_eq (bit_xor (a * 2 % 256) (bit_and 135 (255 * (a / 128 % 2)))) (product a 2)) ≡ true
unfolding product shifted_copies remainder all_below
doubles = refl

pub product_two : (a : ℕ) → a < 256 → bit_xor (a * 2 % 256) (bit_and 135 (255 * (a / 128 % 2))) ≡ product a 2
product_two a h =
    eqb-true (bit_xor (a * 2 % 256) (bit_and 135 (255 * (a / 128 % 2)))) (product a 2)
    (all_below_at 256
    (λ x. nat_eq (bit_xor (x * 2 % 256) (bit_and 135 (255 * (x / 128 % 2)))) (product x 2)) doubles a h)

halves : all_below 256 (λ a. nat_eq (bit_xor (a / 2) (bit_and 195 (255 * (a % 2)))) (product a 195)) ≡ true
unfolding product shifted_copies remainder all_below
halves = refl

pub product_half : (a : ℕ) → a < 256 → bit_xor (a / 2) (bit_and 195 (255 * (a % 2))) ≡ product a 195
product_half a h =
    eqb-true (bit_xor (a / 2) (bit_and 195 (255 * (a % 2)))) (product a 195)
    (all_below_at 256
    (λ x. nat_eq (bit_xor (x / 2) (bit_and 195 (255 * (x % 2)))) (product x 195)) halves a h)

copies : all_below 256 (λ a. nat_eq (bit_and a 255) a && nat_eq (bit_and a 0) 0) ≡ true
unfolding all_below
copies = refl

-- a byte under the mask of a bit
pub masked_set : (a d : ℕ) → a < 256 → d ≡ 1 → bit_and a (255 * d) ≡ a
masked_set a d h e =
    ap (λ x. bit_and a (255 * x)) e
    ∙ eqb-true (bit_and a 255) a
    (and_parts (nat_eq (bit_and a 255) a) (nat_eq (bit_and a 0) 0)
    (all_below_at 256 (λ x. nat_eq (bit_and x 255) x && nat_eq (bit_and x 0) 0) copies a h)).0

pub masked_clear : (a d : ℕ) → a < 256 → d ≡ 0 → bit_and a (255 * d) ≡ 0
masked_clear a d h e =
    ap (λ x. bit_and a (255 * x)) e
    ∙ eqb-true (bit_and a 0) 0
    (and_parts (nat_eq (bit_and a 255) a) (nat_eq (bit_and a 0) 0)
    (all_below_at 256 (λ x. nat_eq (bit_and x 255) x && nat_eq (bit_and x 0) 0) copies a h)).1
