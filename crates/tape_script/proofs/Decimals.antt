-- Numbers in decimal digits.
use Rattle.std.proofs.Common.{ℕ, ◌+◌, ◌-◌, ◌/◌, ◌%◌, ◌^◌, ◌<◌, ◌≤◌, List, [], ◌∷◌, ◌++◌, length, decimal, arith, add-one, ◌≡◌, take, get_or}
use Rattle.std.proofs.Common.{sym, ap, ◌∙◌, ◌*◌, lit<, zero, suc, refl, ◌⊎◌, inl, inr}
use Rattle.std.proofs.Math.Nat.{pow-suc, pow-le-pow_right}
use Rattle.std.proofs.lemmas.Fmt.{decimal_by_steps, decimal_digit, decimal_step, decimal_nonempty, length-decimal-le, first_decimal}
use Rattle.std.proofs.lemmas.List.{length_push, take_more, length-take-le, get_or-take}
use Rattle.command_spec.specs.Command.{IsNumber}

-- a number is below the power of ten by its number of digits
decimal_below : (n : ℕ) → n < 2 ^ 64 → n < 10 ^ length (decimal n)
decimal_below = decimal_by_steps (λ n ds. n < 10 ^ length ds) (λ n few. few) more where
  more : (n : ℕ) (ds : List ℕ) → 10 ≤ n → n / 10 < 10 ^ length ds → n < 10 ^ length (ds ++ (48 + n % 10) ∷ [])
  more n ds many below = rw (length_push ds (48 + n % 10), add-one, pow-suc) (omega arith)

-- ---- the digits read so far are those of a number

-- a byte more is a digit more
first_digit : (word : List ℕ) (b : ℕ) → 0 < length word → get_or word 0 0 ≡ b → 48 ≤ b → b ≤ 57 → take 1 word ≡ decimal (b - 48)
first_digit word b some here low high =
    take_more word 0 0 some ∙ ap (λ (x : ℕ). x ∷ []) (here ∙ (let e : b ≡ 48 + (b - 48) = omega arith in e))
    ∙ sym (decimal_digit (b - 48) (omega arith))

next_digit : (word : List ℕ) (at value b : ℕ) → at < length word → take at word ≡ decimal value → get_or word at 0 ≡ b →
    0 < value → value ≤ 99999999 → 48 ≤ b → b ≤ 57 → take (at + 1) word ≡ decimal (10 * value + (b - 48))
next_digit word at value b here so_far byte some small low high =
    let n : ℕ = 10 * value + (b - 48) in
    let q : n / 10 ≡ value = omega arith in
    let r : 48 + n % 10 ≡ b = omega arith in
    take_more word at 0 here ∙ ap (λ (x : ℕ). take at word ++ x ∷ []) byte ∙ ap (λ xs. xs ++ b ∷ []) so_far
    ∙ sym (decimal_step n (omega arith) (omega arith) ∙ ap (λ (x : ℕ). decimal x ++ (48 + n % 10) ∷ []) q
    ∙ ap (λ (x : ℕ). decimal value ++ x ∷ []) r)

-- before the ninth digit a number has room for one more
room : (word : List ℕ) (at value : ℕ) → value < 2 ^ 64 → at < length word → length word ≤ 9 → take at word ≡ decimal value →
    value ≤ 99999999
room word at value small here short so_far =
    let long : length (decimal value) ≡ at = ap length (sym so_far) ∙ length-take-le at word (omega arith) in
    let below : value < 10 ^ at = rw long at (decimal_below value small) in
    let eight : at ≤ 8 = omega arith in
    let most : 10 ^ at ≤ 10 ^ 8 = pow-le-pow_right (lit< tt) eight in
    omega arith

-- the same, whatever was read
pub small : (word : List ℕ) (at value : ℕ) → value < 2 ^ 64 → at < length word → length word ≤ 9 → (at ≡ 0 → value ≡ 0) →
    (0 < at → take at word ≡ decimal value) → value ≤ 99999999
small word zero value fits here short none so_far = let z : value ≡ 0 = none refl in omega arith
small word (suc at) value fits here short none so_far = room word (suc at) value fits here short (so_far (omega arith))

-- one digit more, also the first
pub more_read : (word : List ℕ) (at value b : ℕ) → at < length word → (at ≡ 0 → value ≡ 0) → (0 < at → take at word ≡ decimal value) →
    value ≤ 99999999 → ((0 < at) × (value ≡ 0 → ⊥)) ⊎ (at ≤ 0) → get_or word at 0 ≡ b → 48 ≤ b → b ≤ 57 →
    take (at + 1) word ≡ decimal (10 * value + (b - 48))
more_read word zero value b here none so_far few either byte low high =
    let z : value ≡ 0 = none refl in
    first_digit word b here byte low high ∙ ap (λ (x : ℕ). decimal x) (let e : b - 48 ≡ 10 * value + (b - 48) = omega arith in e)
more_read word (suc at) value b here none so_far few (inl some) byte low high =
    next_digit word (suc at) value b here (so_far (omega arith)) byte (let ne = some.1 in omega arith) few low high
more_read word (suc at) value b here none so_far few (inr front) byte low high = absurd (omega arith)

-- nine digits are a number of nine digits
pub nine_digits : (word : List ℕ) (value : ℕ) → value < 2 ^ 64 → length word ≤ 9 → word ≡ decimal value → value ≤ 999999999
nine_digits word value fits short digits =
    let below : value < 10 ^ length word = rw (sym (ap length digits)) at (decimal_below value fits) in
    let most : 10 ^ length word ≤ 10 ^ 9 = pow-le-pow_right (lit< tt) short in
    omega arith

-- ---- words that are no number

pub wrong_length : (word : List ℕ) (n : ℕ) → IsNumber word n → (0 < length word) × (length word ≤ 9)
wrong_length word n number =
    let nine = number.nine in
    rw number.digits (decimal_nonempty n (omega arith), length-decimal-le 9 n (omega arith) (omega arith) (omega arith))

-- a number of two digits and more isn't 0
more_digits : (n : ℕ) → 2 ≤ length (decimal n) → 0 < n
more_digits zero two = absurd (let one : length (decimal 0) ≡ 1 = ap length (decimal_digit 0 (lit< tt)) in omega arith)
more_digits (suc n) two = omega arith

pub no_leading_zero : (word : List ℕ) (n at : ℕ) → IsNumber word n → 0 < at → at < length word → take at word ≡ decimal 0 → ⊥
no_leading_zero word n at number some here zeros =
    let nine = number.nine in
    let zero_byte : get_or word 0 0 ≡ 48 = sym (get_or-take at word 0 0 some)
    ∙ ap (λ xs. get_or xs 0 0) (zeros ∙ decimal_digit 0 (lit< tt)) in
    let one : at ≡ 1 = sym (length-take-le at word (omega arith)) ∙ ap length (zeros ∙ decimal_digit 0 (lit< tt)) in
    let above : 0 < n = more_digits n (omega (arith, ap length number.digits)) in
    let first : 48 < get_or word 0 0 = rw number.digits (first_decimal n above (omega arith)) in
    omega arith
