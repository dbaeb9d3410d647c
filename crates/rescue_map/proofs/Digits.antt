-- Numbers in digits.
use Rattle.std.proofs.Common.{◌≡◌, ℕ, ◌+◌, ◌-◌, ◌*◌, ◌/◌, ◌%◌, ◌==◌, ◌^◌, length, drop, get_or, ◌<◌, ◌≤◌, Bool, true, false, List, [], ◌∷◌}
use Rattle.std.proofs.Common.{Option, Some, None, IfSome, if◌then◌else◌, nat_lt, refl, sym, arith}
use Rattle.std.proofs.lemmas.Bool.Decides.{nat_tests}
use Rattle.std.proofs.lemmas.List.{drop_more}
use Rattle.std.proofs.Math.Nat.{mul-le-mul_left, mul_comm, div-add-mod, mod-lt}
use Rattle.rescue_map.specs.declared.spelling.Word.TheVariants.{Number, Other}
use Rattle.rescue_map.specs.Spelling.{digit_value, digits_from, limited, digits_word}

-- one digit more
pub digits_from-digit : (base so_far b : ℕ) (bs : List ℕ) → digit_value b < base →
    digits_from base so_far (b ∷ bs) ≡ digits_from base (so_far * base + digit_value b) bs
digits_from-digit base so_far b bs low =
    let here : nat_lt (digit_value b) base ≡ true = grind (arith, nat_tests) in rw here refl

-- no digit
digits_from-other : (base so_far b : ℕ) (bs : List ℕ) → base ≤ digit_value b → digits_from base so_far (b ∷ bs) ≡ None
digits_from-other base so_far b bs high =
    let here : nat_lt (digit_value b) base ≡ false = grind (arith, nat_tests) in rw here refl

-- more digits make no lesser number
grows : (base so_far : ℕ) (bs : List ℕ) → 1 ≤ base → IfSome (digits_from base so_far bs) (λ n. so_far ≤ n)
grows base so_far [] some = omega arith
grows base so_far (b ∷ bs) some = by_test (nat_lt (digit_value b) base) (grows base (so_far * base + digit_value b) bs some) where
  next : (o : Option ℕ) → IfSome o (λ n. so_far * base + digit_value b ≤ n) → IfSome o (λ n. so_far ≤ n)
  next None h = tt
  next (Some n) h = let m : so_far * 1 ≤ so_far * base = mul-le-mul_left so_far some in omega arith

  by_test : (t : Bool) → IfSome (digits_from base (so_far * base + digit_value b) bs) (λ n. so_far * base + digit_value b ≤ n) →
      IfSome (if t then digits_from base (so_far * base + digit_value b) bs else None) (λ n. so_far ≤ n)
  by_test true h = next (digits_from base (so_far * base + digit_value b) bs) h
  by_test false h = tt

-- a number that is too great stays so
limited-great : (decimal : Bool) (base so_far : ℕ) (bs : List ℕ) → 1 ≤ base → 2 ^ 63 ≤ so_far →
    limited decimal (digits_from base so_far bs) ≡ Other
limited-great decimal base so_far bs some great = by_option (digits_from base so_far bs) (grows base so_far bs some) where
  by_option : (o : Option ℕ) → IfSome o (λ n. so_far ≤ n) → limited decimal o ≡ Other
  by_option None h = refl
  by_option (Some n) h = let out : nat_lt n (2 ^ 63) ≡ false = grind (arith, nat_tests) in rw out refl

pub limited-small : (decimal : Bool) (n : ℕ) → n < 2 ^ 63 → limited decimal (Some n) ≡ Number n decimal
limited-small decimal n small = let within : nat_lt n (2 ^ 63) ≡ true = grind (arith, nat_tests) in rw within refl

-- where a digit more has no room, the number with it is too great
pub over : (value digit base : ℕ) → 0 < base → digit < 2 ^ 63 → (9223372036854775807 - digit) / base < value → 2 ^ 63 ≤ value * base + digit
over value digit base some small above =
    let n : ℕ = 9223372036854775807 - digit in
    let parts : base * (n / base) + n % base ≡ n = div-add-mod n base in
    let rest : n % base < base = mod-lt n some in
    let m : base * (n / base + 1) ≤ base * value = mul-le-mul_left base (let h : n / base + 1 ≤ value = omega arith in h) in
    let e : base * value ≡ value * base = mul_comm base value in
    omega arith

-- a number that has no place for its next digit, or a byte that is none
pub bad_digit : (decimal : Bool) (base value at : ℕ) (digits : List ℕ) → at < length digits → (length digits == 0) ≡ false →
    digits_from base 0 digits ≡ digits_from base value (drop at digits) → base ≤ digit_value (get_or digits at 0) →
    Other ≡ digits_word decimal base digits
bad_digit decimal base value at digits here some rest high =
    rw (some, rest, drop_more digits at 0 here, digits_from-other base value (get_or digits at 0) (drop (at + 1) digits) high) refl

pub bad_value : (decimal : Bool) (base value at : ℕ) (digits : List ℕ) → 1 ≤ base → at < length digits → (length digits == 0) ≡ false →
    digits_from base 0 digits ≡ digits_from base value (drop at digits) → digit_value (get_or digits at 0) < base →
    2 ^ 63 ≤ value * base + digit_value (get_or digits at 0) → Other ≡ digits_word decimal base digits
bad_value decimal base value at digits positive here some rest low great =
    rw (some, rest, drop_more digits at 0 here, digits_from-digit base value (get_or digits at 0) (drop (at + 1) digits) low)
    (sym (limited-great decimal base (value * base + digit_value (get_or digits at 0)) (drop (at + 1) digits) positive great))
