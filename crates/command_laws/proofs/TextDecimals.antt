-- Numbers in decimal digits.
use Rattle.std.proofs.Common.{ℕ, ◌≤◌, ◌+◌, ◌%◌, ◌^◌, ◌<◌, List, [], ◌∷◌, ◌++◌, All, decimal, arith, ◌≡◌, sym, ap, ◌∙◌, length, get_or}
use Rattle.std.proofs.lemmas.Fmt.{decimal_by_steps, decimal_is_IsNumeral}
use Rattle.std.proofs.lemmas.List.Elements.{All-push, All-get_or}
use Rattle.std.specs.Str.Parse.{digits_value}
use Rattle.command_spec.specs.Command.{IsNumber}

abbrev IsDigit : ℕ → Type 0
IsDigit b = (48 ≤ b) × (b ≤ 57)

decimal_digits : (n : ℕ) → n < 2 ^ 64 → All IsDigit (decimal n)
decimal_digits = decimal_by_steps (λ n ds. All IsDigit ds) one more where
  one : (n : ℕ) → n < 10 → All IsDigit ((48 + n) ∷ [])
  one n few = All-push IsDigit [] (48 + n) (λ k d h. absurd (omega arith)) (omega arith, omega arith)

  more : (n : ℕ) (ds : List ℕ) → 10 ≤ n → All IsDigit ds → All IsDigit (ds ++ (48 + n % 10) ∷ [])
  more n ds many digits = All-push IsDigit ds (48 + n % 10) digits (omega arith, omega arith)

-- each word is at most one number
pub one_number : (word : List ℕ) (m n : ℕ) → IsNumber word m → IsNumber word n → m ≡ n
one_number word m n a b =
    let first : digits_value 10 (decimal m) ≡ m = (decimal_is_IsNumeral m (let l = a.nine in omega arith)).1 in
    let second : digits_value 10 (decimal n) ≡ n = (decimal_is_IsNumeral n (let l = b.nine in omega arith)).1 in
    sym first ∙ ap (digits_value 10) (sym a.digits ∙ b.digits) ∙ second

pub all_digits : (word : List ℕ) (n at : ℕ) → IsNumber word n → at < length word → (48 ≤ get_or word at 0) × (get_or word at 0 ≤ 57)
all_digits word n at number here =
    let nine = number.nine in
    All-get_or IsDigit word at 0 here (rw number.digits (decimal_digits n (omega arith)))
