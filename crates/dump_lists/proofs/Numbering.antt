-- The numbers of a line, byte after byte.
use Rattle.std.proofs.Common.{◌≡◌, ℕ, ◌+◌, ◌*◌, ◌<◌, ◌≤◌, ◌==◌, Bool, true, false, List, [], ◌∷◌, ◌++◌, length, Option, Some, None}
use Rattle.std.proofs.Common.{if◌then◌else◌, nat_lt, nat_le, refl, sym, ap, ◌∙◌, append_assoc, append-nil, length-append, arith}
use Rattle.std.proofs.lemmas.Bool.Decides.{nat_tests}
use Rattle.std.proofs.Math.ListN.{drop_of_length-le}
use Rattle.std.proofs.lemmas.Bool.{ne_eqb}
use Rattle.std.proofs.lemmas.List.{length_push}
use Rattle.rescue_map.specs.Lines.{is_blank, begun_word}
use Rattle.rescue_map.specs.Spelling.{digit_value, digits_from}
use Rattle.dump_spec.specs.Lists.{number_of, numbers_of, words_from}
use Rattle.dump_lists.specs.declared.numbers.Numbers.TheVariants.{Nothing, Bad}
use Rattle.dump_lists.specs.declared.numbers.Scan.{Scan}
use Rattle.dump_lists.specs.Numbers.{all_pushed, behind, behind_words}
use Rattle.dump_lists.specs.Scanning.{IsBegun, Moves, Scanned}

-- ---- what is kept

-- a fault stays
pub all_pushed-bad : (ns : List ℕ) → all_pushed Bad ns ≡ Bad
all_pushed-bad [] = refl
all_pushed-bad (n ∷ ns) = all_pushed-bad ns

behind-bad : (o : Option (List ℕ)) → behind Bad o ≡ Bad
behind-bad None = refl
behind-bad (Some ns) = all_pushed-bad ns

-- ---- digits

digits_from-push : (n b : ℕ) (bs : List ℕ) (value : ℕ) → digits_from 10 n bs ≡ Some value → (more : List ℕ) →
    digits_from 10 n (bs ++ b ∷ more) ≡ digits_from 10 value (b ∷ more)
digits_from-push n b [] value is more = ap (λ (o : Option ℕ). by_option o) is where
  by_option : Option ℕ → Option ℕ
  by_option None = None
  by_option (Some v) = digits_from 10 v (b ∷ more)
digits_from-push n b (c ∷ bs) value is more = by_test (nat_lt (digit_value c) 10) is
    (λ h. digits_from-push (n * 10 + digit_value c) b bs value h more) where
      by_test : (t : Bool) → (if t then digits_from 10 (n * 10 + digit_value c) bs else None) ≡ Some value →
          (digits_from 10 (n * 10 + digit_value c) bs ≡ Some value →
          digits_from 10 (n * 10 + digit_value c) (bs ++ b ∷ more) ≡ digits_from 10 value (b ∷ more)) →
          (if t then digits_from 10 (n * 10 + digit_value c) (bs ++ b ∷ more) else None) ≡ digits_from 10 value (b ∷ more)
      by_test true h next = next h
      by_test false h next = absurd (cc)

-- a digit more
pub digits_from-digit : (bs : List ℕ) (b value : ℕ) → digits_from 10 0 bs ≡ Some value → digit_value b < 10 →
    digits_from 10 0 (bs ++ b ∷ []) ≡ Some (value * 10 + digit_value b)
digits_from-digit bs b value is low =
    let here : nat_lt (digit_value b) 10 ≡ true = grind (arith, nat_tests) in
    digits_from-push 0 b bs value is [] ∙ rw here refl

-- ---- words

-- no number begins so
abbrev pub IsNone : List ℕ → Type 0
IsNone begun = (more : List ℕ) → number_of (begun ++ more) ≡ None

word_none : (begun : List ℕ) (words : List (List ℕ)) → 0 < length begun → IsNone begun → numbers_of (begun_word begun ++ words) ≡ None
word_none begun words some none =
    let there : (length begun == 0) ≡ false = ne_eqb (length begun) 0 (λ e. omega arith) in
    let is : number_of begun ≡ None = ap number_of (sym (append-nil begun)) ∙ none [] in
    rw (there, is) refl

words_none : (begun rest : List ℕ) → 0 < length begun → IsNone begun → numbers_of (words_from begun rest) ≡ None
words_none begun [] some none = ap numbers_of (sym (append-nil (begun_word begun))) ∙ word_none begun [] some none
words_none begun (b ∷ rest) some none = by_test (is_blank b) (word_none begun (words_from [] rest) some none)
    (words_none (begun ++ b ∷ []) rest (let l = length_push begun b in omega arith)
    (λ more. ap number_of (append_assoc begun (b ∷ []) more) ∙ none (b ∷ more))) where
      by_test : (t : Bool) → numbers_of (begun_word begun ++ words_from [] rest) ≡ None →
          numbers_of (words_from (begun ++ b ∷ []) rest) ≡ None →
          numbers_of (if t then begun_word begun ++ words_from [] rest else words_from (begun ++ b ∷ []) rest) ≡ None
      by_test true blank other = blank
      by_test false blank other = other

-- ---- a byte more

pub take_digit : (old new : Scan) (byte : ℕ) (begun : List ℕ) → is_blank byte ≡ false → digit_value byte < 10 →
    new.numbers ≡ old.numbers → new.value ≡ 10 * old.value + digit_value byte → new.digits ≡ old.digits + 1 →
    IsBegun old begun → Moves old new byte begun
take_digit old new byte begun blank low numbers value digits is = record {
  after = begun ++ byte ∷ [];
  is_begun = record {
    digits = (let l = length_push begun byte in let d = is.digits in omega arith);
    value = digits_from-digit begun byte old.value is.value low
        ∙ ap (λ (n : ℕ). Some n) (let e : old.value * 10 + digit_value byte ≡ new.value = omega arith in e);
  };
  same = λ rest. rw (blank, numbers) refl;
}

-- no number goes on so
pub take_other : (old new : Scan) (byte : ℕ) (begun : List ℕ) → is_blank byte ≡ false → IsNone (begun ++ byte ∷ []) →
    new.numbers ≡ Bad → new.value ≡ 0 → new.digits ≡ 0 → Moves old new byte begun
take_other old new byte begun blank none numbers value digits = record {
  after = [];
  is_begun = record { digits = digits; value = rw value refl };
  same = λ rest.
      let is : numbers_of (words_from (begun ++ byte ∷ []) rest) ≡ None = words_none (begun ++ byte ∷ []) rest
      (let l = length_push begun byte in omega arith) none in
      rw (blank, is, numbers) (sym (behind-bad (numbers_of (words_from [] rest))));
}

-- a byte that is no digit
pub none_by_byte : (begun : List ℕ) (byte value : ℕ) → digits_from 10 0 begun ≡ Some value → 10 ≤ digit_value byte →
    IsNone (begun ++ byte ∷ [])
none_by_byte begun byte value is high more = by_test (nat_le (length ((begun ++ byte ∷ []) ++ more)) 9) where
  here : nat_lt (digit_value byte) 10 ≡ false
  here = grind (arith, nat_tests)

  none : digits_from 10 0 ((begun ++ byte ∷ []) ++ more) ≡ None
  none = ap (digits_from 10 0) (append_assoc begun (byte ∷ []) more) ∙ digits_from-push 0 byte begun value is more ∙ rw here refl

  by_test : (t : Bool) → (if t then digits_from 10 0 ((begun ++ byte ∷ []) ++ more) else None) ≡ None
  by_test true = none
  by_test false = refl

-- a tenth digit
pub none_by_length : (begun : List ℕ) (byte : ℕ) → 9 ≤ length begun → IsNone (begun ++ byte ∷ [])
none_by_length begun byte long more =
    let l = length_push begun byte in
    let m : length ((begun ++ byte ∷ []) ++ more) ≡ length (begun ++ byte ∷ []) + length more = length-append (begun ++ byte ∷ []) more in
    let many : nat_le (length ((begun ++ byte ∷ []) ++ more)) 9 ≡ false = grind (arith, nat_tests) in
    rw many refl

-- ---- a line

pub scanned_end : (old new : Scan) (line : List ℕ) (at : ℕ) → length line ≤ at →
    ((begun : List ℕ) (words : List (List ℕ)) → IsBegun old begun →
    behind_words old.numbers (begun_word begun ++ words) ≡ behind_words new.numbers words) →
    Scanned old line at → behind_words Nothing (words_from [] line) ≡ new.numbers
scanned_end old new line at past closed scanned =
    scanned.same
    ∙ ap (λ (bs : List ℕ). behind_words old.numbers (words_from scanned.begun bs)) (drop_of_length-le line past)
    ∙ ap (behind_words old.numbers) (sym (append-nil (begun_word scanned.begun)))
    ∙ closed scanned.begun [] scanned.is_begun
