-- Powers of an element, and the inverse.
use Rattle.std.proofs.Common.{◌≡◌, ◌≢◌, ℕ, zero, suc, ◌+◌, ◌*◌, ◌%◌, ◌^◌, ◌<◌, refl, sym, ◌∙◌, ap, arith, bit_xor, true, nat_eq, add-one}
use Rattle.std.proofs.Common.{zero-add, suc-add}
use Rattle.std.specs.Int.{bit_at}
use Rattle.std.specs.Int.Bits.{xor_shifted}
use Rattle.std.proofs.Math.Nat.{zero-mul, one-mul, mod-one, mod-lt}
use Rattle.std.proofs.lemmas.Nat.{xor_comm, mod-pow-add, pow_pos}
use Rattle.std.proofs.lemmas.Bool.{eqb-true}
use Rattle.cartridge_spec.specs.Code.{shifted_copies, remainder, product, power}
use Rattle.gf256_qic.specs.Code.{inverse}
use Rattle.gf256_qic.proofs.Tables.{all_below, all_below_at}
use Rattle.gf256_qic.proofs.Products.{product_byte, product_comm, product_assoc, product_one_left, product_one_right, product_sum_right}
use Rattle.gf256_qic.proofs.Products.{product_zero_right}

pub power_none : (a : ℕ) → power a 0 ≡ 1
unfolding power
power_none a = refl

pub power_more : (a n : ℕ) → power a (suc n) ≡ product a (power a n)
unfolding power
power_more a n = refl

pub power_byte : (a n : ℕ) → a < 256 → power a n < 256
unfolding power
power_byte a zero h = omega arith
power_byte a (suc n) h = product_byte a (power a n) h (power_byte a n h)

pub power_one : (a : ℕ) → a < 256 → power a 1 ≡ a
unfolding power
power_one a h = product_one_right a h

pub power_sum : (a m n : ℕ) → a < 256 → power a (m + n) ≡ product (power a m) (power a n)
unfolding power
power_sum a zero n h = ap (power a) (zero-add n) ∙ sym (product_one_left (power a n) (power_byte a n h))
power_sum a (suc m) n h =
    ap (power a) (suc-add m n) ∙ ap (product a) (power_sum a m n h)
    ∙ sym (product_assoc a (power a m) (power a n) h (power_byte a m h) (power_byte a n h))

inverses : all_below 255 (λ k. nat_eq (product (suc k) (inverse (suc k))) 1) ≡ true
unfolding product shifted_copies remainder power inverse all_below
inverses = refl

pub product_inverse : (a : ℕ) → a < 256 → a ≢ 0 → product a (inverse a) ≡ 1
product_inverse zero h other = absurd (other refl)
product_inverse (suc k) h other =
    eqb-true (product (suc k) (inverse (suc k))) 1
    (all_below_at 255 (λ x. nat_eq (product (suc x) (inverse (suc x))) 1) inverses k (omega arith))

pub inverse_byte : (a : ℕ) → a < 256 → inverse a < 256
unfolding inverse
inverse_byte a h = power_byte a 254 h

low_powers : all_below 8 (λ i. nat_eq (power 2 i) (2 ^ i)) ≡ true
unfolding product shifted_copies remainder power all_below
low_powers = refl

power_two : (i : ℕ) → i < 8 → power 2 i ≡ 2 ^ i
power_two i h = eqb-true (power 2 i) (2 ^ i) (all_below_at 8 (λ x. nat_eq (power 2 x) (2 ^ x)) low_powers i h)

-- the low bits of b, one more of them
low_bits : (b i : ℕ) → b % 2 ^ (i + 1) ≡ bit_at b i * 2 ^ i + b % 2 ^ i
low_bits b i =
    let exponent : i + 1 ≡ 1 + i = omega arith in
    ap (λ x. b % 2 ^ x) exponent ∙ mod-pow-add b 1 i

pub product_of_low_bits_none : (a b : ℕ) → 0 ≡ product a (b % 1)
product_of_low_bits_none a b = sym (ap (product a) (mod-one b) ∙ product_zero_right a)

pub product_of_low_bits_set :
    (a b i : ℕ) → i < 8 → bit_at b i ≡ 1 →
    bit_xor (product a (b % 2 ^ i)) (product a (power 2 i)) ≡ product a (b % 2 ^ (i + 1))
product_of_low_bits_set a b i h set =
    let rest : b % 2 ^ i < 2 ^ i = mod-lt b (pow_pos i) in
    let parts : b % 2 ^ (i + 1) ≡ bit_xor (1 * 2 ^ i) (b % 2 ^ i) =
    low_bits b i ∙ ap (λ x. x * 2 ^ i + b % 2 ^ i) set ∙ sym (xor_shifted 1 i (b % 2 ^ i) rest) in
    let one : 1 * 2 ^ i ≡ power 2 i = one-mul (2 ^ i) ∙ sym (power_two i h) in
    sym (
    ap (product a) (parts ∙ ap (λ x. bit_xor x (b % 2 ^ i)) one ∙ xor_comm (power 2 i) (b % 2 ^ i))
    ∙ product_sum_right a (b % 2 ^ i) (power 2 i))

pub product_of_low_bits_clear :
    (a b i : ℕ) → bit_at b i ≡ 0 → product a (b % 2 ^ i) ≡ product a (b % 2 ^ (i + 1))
product_of_low_bits_clear a b i clear =
    let none : bit_at b i * 2 ^ i ≡ 0 = ap (λ x. x * 2 ^ i) clear ∙ zero-mul (2 ^ i) in
    sym (ap (product a) (low_bits b i ∙ ap (λ x. x + b % 2 ^ i) none ∙ zero-add (b % 2 ^ i)))

-- one more shift of a copy
pub product_shifted : (a i : ℕ) → a < 256 → product (product a (power 2 i)) 2 ≡ product a (power 2 (i + 1))
product_shifted a i h =
    let two : 2 < 256 = omega arith in
    product_assoc a (power 2 i) 2 h (power_byte 2 i two) two
    ∙ ap (product a)
    (product_comm (power 2 i) 2 (power_byte 2 i two) two ∙ sym (power_more 2 i)
    ∙ sym (ap (power 2) (add-one i)))

-- no other byte is the inverse
pub inverse_unique : (a x : ℕ) → a < 256 → x < 256 → a ≢ 0 → product a x ≡ 1 → x ≡ inverse a
inverse_unique a x ha hx other one =
    let i : ℕ = inverse a in
    let hi : i < 256 = inverse_byte a ha in
    sym (product_one_left x hx)
    ∙ ap (λ v. product v x) (sym (product_comm i a hi ha ∙ product_inverse a ha other))
    ∙ product_assoc i a x hi ha hx
    ∙ ap (product i) one
    ∙ product_one_right i hi
