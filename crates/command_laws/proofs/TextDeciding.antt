-- Words are those of a command or of none, and each input has a reading.
use Rattle.std.proofs.Common.{◌⊎◌, inl, inr, ◌≡◌, Bool, true, false, refl, ℕ, ◌-◌, List, ◌≤◌, nat_le, arith, ◌==◌, decimal, zero, suc, []}
use Rattle.std.proofs.Common.{◌∷◌, All, Option, Some, None, ap, ◌≢◌, slice_get, length, ◌+◌, ◌*◌, ◌/◌, ◌%◌}
use Rattle.std.specs.List.{AllZip}
use Rattle.std.specs.Str.{bytes_eq}
use Rattle.std.proofs.lemmas.Slice.Eq.{bytes_eq-Decides}
use Rattle.std.proofs.lemmas.Bool.Decides.{nat_tests}
use Rattle.command_laws.proofs.TextCommands.{pair_value, pair_is}
use Rattle.command_laws.proofs.TextDates.{fields_of}
use Rattle.command_spec.specs.Command.{IsNumber, IsDateWord, Part, Word, Number, Name, Date, SpellsPart, HasForm}
use Rattle.command_spec.specs.Lines.{date_form}
use Rattle.qic_base.specs.Field.{IsDate, date_word, IsNameText, filled}
use Rattle.qic_base.specs.LineBytes.{IsPrintable}
use Rattle.cartridge_laws.proofs.Search.{Decided, decide_as}

pub both : (P Q : Type 0) → Decided P → Decided Q → Decided (P × Q)
both P Q (inl p) (inl q) = inl (p, q)
both P Q (inl p) (inr none) = inr (λ h. none h.1)
both P Q (inr none) q = inr (λ h. none h.0)

either : (P Q : Type 0) → Decided P → Decided Q → Decided (P ⊎ Q)
either P Q (inl p) q = inl (inl p)
either P Q (inr none) (inl q) = inl (inr q)
either P Q (inr none) (inr neither) = inr (λ h. elim h [ inl p ↦ none p | inr q ↦ neither q ])

not_it : (P : Type 0) → Decided P → Decided (P → ⊥)
not_it P (inl p) = inr (λ none. none p)
not_it P (inr none) = inl none

by_test : (P : Type 0) (b : Bool) → (b ≡ true → P) → (P → b ≡ true) → Decided P
by_test P true forth back = inl (forth refl)
by_test P false forth back = inr (λ p. let wrong : false ≡ true = back p in cc)

pub same_bytes : (xs ys : List ℕ) → Decided (xs ≡ ys)
same_bytes xs ys = let d = bytes_eq-Decides xs ys in by_test (xs ≡ ys) (bytes_eq xs ys) d.0 d.1

pub at_most : (m n : ℕ) → Decided (m ≤ n)
at_most m n = by_test (m ≤ n) (nat_le m n) (λ e. grind (arith, nat_tests)) (λ le. grind (arith, nat_tests))

pub same_number : (m n : ℕ) → Decided (m ≡ n)
same_number m n = by_test (m ≡ n) (m == n) (λ e. grind (arith, nat_tests)) (λ e. grind (arith, nat_tests))

-- ---- words

is_number : (word : List ℕ) (n : ℕ) → Decided (IsNumber word n)
is_number word n =
    decide_as ((word ≡ decimal n) × (n ≤ 999999999)) (IsNumber word n) (λ h. record { digits = h.0; nine = h.1 }) (λ h. (h.digits, h.nine))
    (both (word ≡ decimal n) (n ≤ 999999999) (same_bytes word (decimal n)) (at_most n 999999999))

is_printable : (b : ℕ) → Decided (IsPrintable b)
is_printable b = both (0x20 ≤ b) (b ≤ 0x7E) (at_most 0x20 b) (at_most b 0x7E)

all_printable : (bytes : List ℕ) → Decided (All IsPrintable bytes)
all_printable [] = inl (λ k d here. absurd (omega arith))
all_printable (b ∷ bytes) =
    decide_as (IsPrintable b × All IsPrintable bytes) (All IsPrintable (b ∷ bytes))
    (λ h. joined h.0 h.1) (λ h. (h 0 b (omega arith), λ k d here. h (suc k) d (omega arith)))
    (both (IsPrintable b) (All IsPrintable bytes) (is_printable b) (all_printable bytes)) where
      joined : IsPrintable b → All IsPrintable bytes → All IsPrintable (b ∷ bytes)
      joined first rest zero d here = first
      joined first rest (suc k) d here = rest k d (omega arith)

is_space : (o : Option ℕ) → Decided (o ≡ Some 0x20)
is_space None = inr (λ e. cc)
is_space (Some b) = decide_as (b ≡ 0x20) (Some b ≡ Some 0x20) (λ e. ap (λ (x : ℕ). Some x) e) (λ e. cc) (same_number b 0x20)

is_name : (word : List ℕ) → Decided (IsNameText word)
is_name word =
    let n : ℕ = length word in
    let B : Type 0 = slice_get word 0 ≢ Some 0x20 in
    let E : Type 0 = slice_get word (n - 1) ≢ Some 0x20 in
    let A : Type 0 = All IsPrintable word in
    decide_as ((1 ≤ n) × ((n ≤ 44) × (A × (B × E)))) (IsNameText word)
    (λ h. record { some = h.0; fits = h.1.0; printable = h.1.1.0; begins = h.1.1.1.0; ends = h.1.1.1.1 })
    (λ h. (h.some, (h.fits, (h.printable, (h.begins, h.ends)))))
    (both (1 ≤ n) ((n ≤ 44) × (A × (B × E))) (at_most 1 n)
    (both (n ≤ 44) (A × (B × E)) (at_most n 44)
    (both A (B × E) (all_printable word)
    (both B E (not_it (slice_get word 0 ≡ Some 0x20) (is_space (slice_get word 0)))
    (not_it (slice_get word (n - 1) ≡ Some 0x20) (is_space (slice_get word (n - 1))))))))

is_date : (year month day hour minute second : ℕ) → Decided (IsDate year month day hour minute second)
is_date y mo d h mi s =
    let W : Type 0 = (1970 ≤ y) × (y ≤ 2097) in
    let M : Type 0 = (1 ≤ mo) × (mo ≤ 12) in
    let D : Type 0 = (1 ≤ d) × (d ≤ 31) in
    let T : Type 0 = (h ≤ 23) × ((mi ≤ 59) × (s ≤ 59)) in
    decide_as (W × (M × (D × T))) (IsDate y mo d h mi s)
    (λ f. record {
      first_year = f.0.0;
      last_year = f.0.1;
      first_month = f.1.0.0;
      last_month = f.1.0.1;
      first_day = f.1.1.0.0;
      last_day = f.1.1.0.1;
      last_hour = f.1.1.1.0;
      last_minute = f.1.1.1.1.0;
      last_second = f.1.1.1.1.1;
    })
    (λ f. (
      (f.first_year, f.last_year),
      (
        (f.first_month, f.last_month),
        ((f.first_day, f.last_day), (f.last_hour, (f.last_minute, f.last_second))),
      ),
    ))
    (both W (M × (D × T)) (both (1970 ≤ y) (y ≤ 2097) (at_most 1970 y) (at_most y 2097))
    (both M (D × T) (both (1 ≤ mo) (mo ≤ 12) (at_most 1 mo) (at_most mo 12))
    (both D T (both (1 ≤ d) (d ≤ 31) (at_most 1 d) (at_most d 31))
    (both (h ≤ 23) ((mi ≤ 59) × (s ≤ 59)) (at_most h 23) (both (mi ≤ 59) (s ≤ 59) (at_most mi 59) (at_most s 59))))))

-- a date is that of the digits at its places
is_date_word : (word : List ℕ) (date : ℕ) → Decided (IsDateWord word date)
is_date_word word date =
    let y : ℕ = 100 * pair_value word 0 + pair_value word 2 in
    let mo : ℕ = pair_value word 5 in
    let d : ℕ = pair_value word 8 in
    let h : ℕ = pair_value word 11 in
    let mi : ℕ = pair_value word 14 in
    let s : ℕ = pair_value word 17 in
    let F : Type 0 = word ≡ date_form y mo d h mi s in
    let N : Type 0 = date ≡ date_word y mo d h mi s in
    decide_as (IsDate y mo d h mi s × (F × N)) (IsDateWord word date)
    (λ f. record { year = y; month = mo; day = d; hour = h; minute = mi; second = s; a_date = f.0; written = f.1.0; stamped = f.1.1 })
    (λ w.
    let f = fields_of word date w in
    let year : y ≡ w.year = (let a = pair_is word 0 (w.year / 100) f.hundreds_at in let b = pair_is word 2 (w.year % 100) f.years_at in
    omega arith) in
    let month : mo ≡ w.month = pair_is word 5 w.month f.month_at in
    let day : d ≡ w.day = pair_is word 8 w.day f.day_at in
    let hour : h ≡ w.hour = pair_is word 11 w.hour f.hour_at in
    let minute : mi ≡ w.minute = pair_is word 14 w.minute f.minute_at in
    let second : s ≡ w.second = pair_is word 17 w.second f.second_at in
    rw (year, month, day, hour, minute, second) (w.a_date, (w.written, w.stamped)))
    (both (IsDate y mo d h mi s) (F × N) (is_date y mo d h mi s)
    (both F N (same_bytes word (date_form y mo d h mi s)) (same_number date (date_word y mo d h mi s))))

pub spelled : (word : List ℕ) (part : Part) → Decided (SpellsPart word part)
spelled word (Word text) = same_bytes word text
spelled word (Number least greatest n) =
    decide_as (IsNumber word n × ((least ≤ n) × (n ≤ greatest))) (IsNumber word n × (least ≤ n) × (n ≤ greatest))
    (λ h. (h.0, h.1.0, h.1.1)) (λ h. (h.0, (h.1, h.2)))
    (both (IsNumber word n) ((least ≤ n) × (n ≤ greatest)) (is_number word n)
    (both (least ≤ n) (n ≤ greatest) (at_most least n) (at_most n greatest)))
spelled word (Name name) = both (IsNameText word) (name ≡ filled word) (is_name word) (same_bytes name (filled word))
spelled word (Date date) = is_date_word word date

all_spelled : (words : List (List ℕ)) (parts : List Part) → Decided (AllZip SpellsPart words parts)
all_spelled [] [] = inl tt
all_spelled [] (part ∷ parts) = inr (λ h. h)
all_spelled (word ∷ words) [] = inr (λ h. h)
all_spelled (word ∷ words) (part ∷ parts) = both (SpellsPart word part) (AllZip SpellsPart words parts) (spelled word part)
    (all_spelled words parts)

pub has_form : (words : List (List ℕ)) (forms : List (List Part)) → Decided (HasForm words forms)
has_form words [] = inr (λ h. h)
has_form words (form ∷ forms) = either (AllZip SpellsPart words form) (HasForm words forms) (all_spelled words form) (has_form words forms)
