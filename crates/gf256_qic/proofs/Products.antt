-- The product of the field keeps sums in each factor, and so is alike where it is so on the powers of x.
use Rattle.std.proofs.Common.{◌≡◌, ℕ, zero, suc, ◌+◌, ◌*◌, ◌%◌, ◌^◌, ◌<◌, refl, sym, ◌∙◌, ap, arith, bit_xor, true, nat_eq, nat_lt}
use Rattle.std.proofs.Math.Nat.{zero-mul, one-mul}
use Rattle.std.specs.Int.{bit_at}
use Rattle.std.specs.Int.Bits.{xor_self, xor_zero_r}
use Rattle.std.proofs.lemmas.Nat.{xor_block, pow_pos}
use Rattle.std.proofs.lemmas.Nat.Bits.{bit_at_xor, bit_at-lt}
use Rattle.std.proofs.lemmas.Bool.{eqb-true, ltb-true}
use Rattle.gf256_qic.specs.Code.{modulus}
use Rattle.cartridge_spec.specs.Code.{shifted_copies, remainder, product}
use Rattle.gf256_qic.proofs.Sums.{swap4, IsAdditive, additive_zero, alike, bytes_from_powers}
use Rattle.gf256_qic.proofs.Tables.{all_below, all_below_at}

-- a sum shifted by k places
shifted_sum : (a b k : ℕ) → bit_xor a b * 2 ^ k ≡ bit_xor (a * 2 ^ k) (b * 2 ^ k)
shifted_sum a b k =
    let block : bit_xor (a * 2 ^ k + 0) (b * 2 ^ k + 0) ≡ bit_xor a b * 2 ^ k + 0 =
    xor_block k a b 0 0 (pow_pos k) (pow_pos k) in
    let left : a * 2 ^ k ≡ a * 2 ^ k + 0 = omega arith in
    let right : b * 2 ^ k ≡ b * 2 ^ k + 0 = omega arith in
    let whole : bit_xor a b * 2 ^ k ≡ bit_xor a b * 2 ^ k + 0 = omega arith in
    whole ∙ sym block ∙ ap (λ x. bit_xor x (b * 2 ^ k + 0)) (sym left) ∙ ap (bit_xor (a * 2 ^ k)) (sym right)

-- a sum of bits times a number
digits_times : (x y m : ℕ) → x < 2 → y < 2 → ((x + y) % 2) * m ≡ bit_xor (x * m) (y * m)
digits_times zero zero m hx hy = simp (zero-mul)
digits_times zero (suc zero) m hx hy = simp (zero-mul, one-mul)
digits_times (suc zero) zero m hx hy = simp (zero-mul, one-mul, xor_zero_r)
digits_times (suc zero) (suc zero) m hx hy = simp (zero-mul, one-mul, xor_self)
digits_times (suc (suc x)) y m hx hy = absurd (omega arith)
digits_times zero (suc (suc y)) m hx hy = absurd (omega arith)
digits_times (suc zero) (suc (suc y)) m hx hy = absurd (omega arith)

-- bit i of a sum, times a number
bit_times : (a b i m : ℕ) → bit_at (bit_xor a b) i * m ≡ bit_xor (bit_at a i * m) (bit_at b i * m)
bit_times a b i m =
    ap (λ x. x * m) (bit_at_xor a b i)
    ∙ digits_times (bit_at a i) (bit_at b i) m (bit_at-lt a i) (bit_at-lt b i)

copies_left : (k a a' b : ℕ) →
    shifted_copies k (bit_xor a a') b ≡ bit_xor (shifted_copies k a b) (shifted_copies k a' b)
unfolding shifted_copies
copies_left zero a a' b = refl
copies_left (suc k) a a' b =
    let bit_sum : (x y d : ℕ) → d < 2 → d * bit_xor x y ≡ bit_xor (d * x) (d * y) = times_digit in
    ap (λ x. bit_xor x (bit_at b k * (bit_xor a a' * 2 ^ k))) (copies_left k a a' b)
    ∙ ap (λ x. bit_xor (bit_xor (shifted_copies k a b) (shifted_copies k a' b)) (bit_at b k * x))
    (shifted_sum a a' k)
    ∙ ap (bit_xor (bit_xor (shifted_copies k a b) (shifted_copies k a' b)))
    (bit_sum (a * 2 ^ k) (a' * 2 ^ k) (bit_at b k) (bit_at-lt b k))
    ∙ swap4 (shifted_copies k a b) (shifted_copies k a' b) (bit_at b k * (a * 2 ^ k)) (bit_at b k * (a' * 2 ^ k))
  where
    times_digit : (x y d : ℕ) → d < 2 → d * bit_xor x y ≡ bit_xor (d * x) (d * y)
    times_digit x y zero h = simp (zero-mul)
    times_digit x y (suc zero) h = simp (one-mul)
    times_digit x y (suc (suc d)) h = absurd (omega arith)

copies_right : (k a b b' : ℕ) →
    shifted_copies k a (bit_xor b b') ≡ bit_xor (shifted_copies k a b) (shifted_copies k a b')
unfolding shifted_copies
copies_right zero a b b' = refl
copies_right (suc k) a b b' =
    ap (λ x. bit_xor x (bit_at (bit_xor b b') k * (a * 2 ^ k))) (copies_right k a b b')
    ∙ ap (bit_xor (bit_xor (shifted_copies k a b) (shifted_copies k a b'))) (bit_times b b' k (a * 2 ^ k))
    ∙ swap4 (shifted_copies k a b) (shifted_copies k a b') (bit_at b k * (a * 2 ^ k)) (bit_at b' k * (a * 2 ^ k))

remainder_sum : (k a b : ℕ) → remainder k (bit_xor a b) ≡ bit_xor (remainder k a) (remainder k b)
unfolding remainder
remainder_sum zero a b = refl
remainder_sum (suc k) a b =
    ap (λ x. remainder k (bit_xor (bit_xor a b) x)) (bit_times a b (8 + k) (modulus * 2 ^ k))
    ∙ ap (remainder k)
    (swap4 a b (bit_at a (8 + k) * (modulus * 2 ^ k)) (bit_at b (8 + k) * (modulus * 2 ^ k)))
    ∙ remainder_sum k (bit_xor a (bit_at a (8 + k) * (modulus * 2 ^ k)))
    (bit_xor b (bit_at b (8 + k) * (modulus * 2 ^ k)))

-- distributivity, for all numbers
pub product_sum_left : (a a' b : ℕ) → product (bit_xor a a') b ≡ bit_xor (product a b) (product a' b)
unfolding product
product_sum_left a a' b =
    ap (remainder 7) (copies_left 8 a a' b) ∙ remainder_sum 7 (shifted_copies 8 a b) (shifted_copies 8 a' b)

pub product_sum_right : (a b b' : ℕ) → product a (bit_xor b b') ≡ bit_xor (product a b) (product a b')
unfolding product
product_sum_right a b b' =
    ap (remainder 7) (copies_right 8 a b b') ∙ remainder_sum 7 (shifted_copies 8 a b) (shifted_copies 8 a b')

times_left : (b : ℕ) → IsAdditive (λ a. product a b)
times_left b = record { adds = λ a a'. product_sum_left a a' b }

times_right : (a : ℕ) → IsAdditive (product a)
times_right a = record { adds = product_sum_right a }

pub product_zero_left : (b : ℕ) → product 0 b ≡ 0
product_zero_left b = additive_zero (λ a. product a b) (times_left b)

pub product_zero_right : (a : ℕ) → product a 0 ≡ 0
product_zero_right a = additive_zero (product a) (times_right a)

-- the laws at the powers of x, by computation
commutes_at_powers : all_below 8 (λ i. all_below 8 (λ j. nat_eq (product (2 ^ i) (2 ^ j)) (product (2 ^ j) (2 ^ i)))) ≡ true
unfolding product shifted_copies remainder all_below
commutes_at_powers = refl

associates_at_powers :
    all_below 8 (λ i. all_below 8 (λ j. all_below 8 (λ k.
    nat_eq (product (product (2 ^ i) (2 ^ j)) (2 ^ k)) (product (2 ^ i) (product (2 ^ j) (2 ^ k)))))) ≡ true
unfolding product shifted_copies remainder all_below
associates_at_powers = refl

bytes_at_powers : all_below 8 (λ i. all_below 8 (λ j. nat_lt (product (2 ^ i) (2 ^ j)) 256)) ≡ true
unfolding product shifted_copies remainder all_below
bytes_at_powers = refl

units_at_powers : all_below 8 (λ i. nat_eq (product 1 (2 ^ i)) (2 ^ i)) ≡ true
unfolding product shifted_copies remainder all_below
units_at_powers = refl

pub product_byte : (a b : ℕ) → a < 256 → b < 256 → product a b < 256
product_byte a b ha hb =
    bytes_from_powers (λ x. product x b) (times_left b) 8
    (λ i hi. bytes_from_powers (product (2 ^ i)) (times_right (2 ^ i)) 8
    (λ j hj. ltb-true (product (2 ^ i) (2 ^ j)) 256
    (all_below_at 8 (λ y. nat_lt (product (2 ^ i) (2 ^ y)) 256)
    (all_below_at 8 (λ x. all_below 8 (λ y. nat_lt (product (2 ^ x) (2 ^ y)) 256)) bytes_at_powers i hi)
    j hj))
    b hb)
    a ha

pub product_comm : (a b : ℕ) → a < 256 → b < 256 → product a b ≡ product b a
product_comm a b ha hb =
    alike (λ x. product x b) (product b) (times_left b) (times_right b) 8
    (λ i hi. alike (product (2 ^ i)) (λ y. product y (2 ^ i)) (times_right (2 ^ i)) (times_left (2 ^ i)) 8
    (λ j hj. eqb-true (product (2 ^ i) (2 ^ j)) (product (2 ^ j) (2 ^ i))
    (all_below_at 8 (λ y. nat_eq (product (2 ^ i) (2 ^ y)) (product (2 ^ y) (2 ^ i)))
    (all_below_at 8 (λ x. all_below 8 (λ y. nat_eq (product (2 ^ x) (2 ^ y)) (product (2 ^ y) (2 ^ x))))
    commutes_at_powers i hi)
    j hj))
    b hb)
    a ha

-- a function that keeps sums, after another
after : (f g : ℕ → ℕ) → IsAdditive f → IsAdditive g → IsAdditive (λ x. f (g x))
after f g af ag = record { adds = λ a b. ap f (ag.adds a b) ∙ af.adds (g a) (g b) }

pub product_assoc : (a b c : ℕ) → a < 256 → b < 256 → c < 256 → product (product a b) c ≡ product a (product b c)
product_assoc a b c ha hb hc =
    alike (λ x. product (product x b) c) (λ x. product x (product b c))
    (after (λ x. product x c) (λ x. product x b) (times_left c) (times_left b)) (times_left (product b c)) 8
    (λ i hi. alike (λ y. product (product (2 ^ i) y) c) (λ y. product (2 ^ i) (product y c))
    (after (λ x. product x c) (product (2 ^ i)) (times_left c) (times_right (2 ^ i)))
    (after (product (2 ^ i)) (λ y. product y c) (times_right (2 ^ i)) (times_left c)) 8
    (λ j hj. alike (product (product (2 ^ i) (2 ^ j))) (λ z. product (2 ^ i) (product (2 ^ j) z))
    (times_right (product (2 ^ i) (2 ^ j)))
    (after (product (2 ^ i)) (product (2 ^ j)) (times_right (2 ^ i)) (times_right (2 ^ j))) 8
    (λ k hk.
    let at_i = all_below_at 8
    (λ x. all_below 8 (λ y. all_below 8 (λ z.
    nat_eq (product (product (2 ^ x) (2 ^ y)) (2 ^ z)) (product (2 ^ x) (product (2 ^ y) (2 ^ z))))))
    associates_at_powers i hi in
    let at_j = all_below_at 8
    (λ y. all_below 8 (λ z.
    nat_eq (product (product (2 ^ i) (2 ^ y)) (2 ^ z)) (product (2 ^ i) (product (2 ^ y) (2 ^ z)))))
    at_i j hj in
    eqb-true (product (product (2 ^ i) (2 ^ j)) (2 ^ k)) (product (2 ^ i) (product (2 ^ j) (2 ^ k)))
    (all_below_at 8
    (λ z. nat_eq (product (product (2 ^ i) (2 ^ j)) (2 ^ z)) (product (2 ^ i) (product (2 ^ j) (2 ^ z))))
    at_j k hk))
    c hc)
    b hb)
    a ha

identity : IsAdditive (λ x. x)
identity = record { adds = λ a b. refl }

pub product_one_left : (a : ℕ) → a < 256 → product 1 a ≡ a
product_one_left a ha =
    alike (product 1) (λ x. x) (times_right 1) identity 8
    (λ i hi. eqb-true (product 1 (2 ^ i)) (2 ^ i)
    (all_below_at 8 (λ x. nat_eq (product 1 (2 ^ x)) (2 ^ x)) units_at_powers i hi))
    a ha

pub product_one_right : (a : ℕ) → a < 256 → product a 1 ≡ a
product_one_right a ha = product_comm a 1 ha (omega arith) ∙ product_one_left a ha
