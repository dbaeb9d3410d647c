-- Digits without a leading zero, at most nine of them, are those of a number.
use Rattle.std.proofs.Common.{◌≡◌, ◌≢◌, ℕ, ◌+◌, ◌-◌, ◌*◌, ◌<◌, ◌≤◌, ◌∙◌, List, [], ◌∷◌, length, take, get_or}
use Rattle.std.proofs.Common.{decimal, suc, zero, arith, add-one}
use Rattle.std.proofs.Common.{refl, sym, ap, inl, inr, lit<}
use Rattle.std.specs.Prelude.{slice_index}
use Rattle.std.proofs.lemmas.List.{take_all}
use Rattle.std.proofs.lemmas.Fmt.{decimal_digit}
use Rattle.command_spec.specs.Command.{IsNumber}
use Rattle.tape_script.proofs.Decimals.{small, more_read}
use Rattle.word_hints.specs.Faults.{AreDigits, HasLeadingZero, HasTooManyDigits}

-- the first digits are those of a number above 0
record Reads (word : List ℕ) (at : ℕ) : Type 0 where
  n : ℕ
  digits : take at word ≡ decimal n
  some : 0 < n
  nine : n ≤ 999999999

read : (word : List ℕ) → AreDigits word → get_or word 0 0 ≢ 48 → length word ≤ 9 → (at : ℕ) → at < length word → Reads word (suc at)
read word digits front short zero here =
    let digit = digits.1 0 0 here in
    record {
      n = 10 * 0 + (get_or word 0 0 - 48);
      digits = more_read word 0 0 (get_or word 0 0) here (λ e. refl) (λ some. absurd (omega arith)) (omega arith) (inr (omega arith))
          refl digit.0 digit.1;
      some = grind arith;
      nine = omega (arith, digit.1);
    }
read word digits front short (suc at) here =
    let before = read word digits front short at (omega arith) in
    let nine = before.nine in
    let above = before.some in
    let digit = digits.1 (suc at) 0 here in
    let few = small word (suc at) before.n (omega arith) here short (λ e. absurd (omega arith)) (λ some. before.digits) in
    record {
      n = 10 * before.n + (get_or word (suc at) 0 - 48);
      digits = rw add-one at (more_read word (suc at) before.n (get_or word (suc at) 0) here (λ e. absurd (omega arith))
          (λ some. before.digits) few (inl (omega arith, λ none. omega arith)) refl digit.0 digit.1);
      some = omega arith;
      nine = omega (arith, digit.1);
    }

pub is_number : (word : List ℕ) → AreDigits word → get_or word 0 0 ≢ 48 → length word ≤ 9 → (n : ℕ) × IsNumber word n
is_number [] digits front short = absurd (omega (arith, digits.0))
is_number (byte ∷ bytes) digits front short =
    let all = read (byte ∷ bytes) digits front short (length bytes) (omega arith) in
    (all.n, record { digits = sym (take_all (suc (length bytes)) (byte ∷ bytes) (omega arith)) ∙ all.digits; nine = all.nine })

-- a zero alone
pub is_zero : (word : List ℕ) → length word ≡ 1 → get_or word 0 0 ≡ 48 → IsNumber word 0
is_zero [] one first = absurd (omega arith)
is_zero (byte ∷ []) one first = record { digits = ap (λ x. x ∷ []) first ∙ sym (decimal_digit 0 (lit< tt)); nine = omega arith }
is_zero (byte ∷ more ∷ bytes) one first = absurd (omega arith)

-- ---- digits that are those of no number

pub leading_zero : (word : List ℕ) → AreDigits word → ((n : ℕ) → ¬ (IsNumber word n)) → slice_index word 0 ≡ 48 → HasLeadingZero word
leading_zero word digits none front =
    let some = digits.0 in
    let alone : length word ≢ 1 = λ one. none 0 (is_zero word one front) in (digits, grind arith, front)

pub too_many : (word : List ℕ) → AreDigits word → ((n : ℕ) → ¬ (IsNumber word n)) → slice_index word 0 ≢ 48 → HasTooManyDigits word
too_many word digits none front =
    let long : length word ≤ 9 → ⊥ = λ few. (let all = is_number word digits front few in none all.0 all.1) in (digits, grind arith, front)
