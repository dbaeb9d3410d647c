-- What the typed getters of matches read of a text.
use Rattle.std.proofs.Common.{◌≡◌, ◌∙◌, ◌^◌, ℕ, Bool, true, false, List, [], ◌∷◌, length, refl, sym, ap, codes, Option, Some, None}
use Rattle.std.proofs.Common.{Result, Ok, Err, nat_lt}
use Rattle.std.specs.Char.{digit_value}
use Rattle.std.specs.List.{list_all}
use Rattle.std.specs.Option.{option_and_then, unwrap_or}
use Rattle.std.specs.Result.{result_ok}
use Rattle.std.specs.Str.{bytes_eq}
use Rattle.std.specs.Str.Parse.{AllDigits, IsNumeral, ParsesUnsigned, ParsesBool, digits_value, without_leading_plus}
use Rattle.std.proofs.lemmas.Bool.{ltb-true, lt-ltb}
use Rattle.std.proofs.lemmas.Slice.Eq.{bytes_eq-Decides}
use Rattle.clap.specs.Matches.{ReadsOne, one_text}
use Rattle.clap.specs.ValueTests.{is_numeral}
use Rattle.clap.specs.Walk.{Text, rows_of}
use Rattle.clap.specs.declared.parser.matches.Found.{Found}
use Rattle.clap.proofs.WalkLemmas.{both, one_text-rows}
use Rattle.salvage_words.specs.Reading.{flag_in, is_true, number_in, number_of}

-- ---- numbers

digits_tested : (ds : List ℕ) → AllDigits 10 ds → list_all (λ d. nat_lt (digit_value d) 10) ds ≡ true
digits_tested [] all = refl
digits_tested (d ∷ ds) all = rw (lt-ltb (digit_value d) 10 all.0) (digits_tested ds all.1)

digits_told : (ds : List ℕ) → list_all (λ d. nat_lt (digit_value d) 10) ds ≡ true → AllDigits 10 ds
digits_told [] e = tt
digits_told (d ∷ ds) e = let parts = both _ _ e in (ltb-true _ _ parts.0, digits_told ds parts.1)

numeral_tested : (ds : List ℕ) → IsNumeral 10 ds → is_numeral ds ≡ true
numeral_tested ds is = rw (lt-ltb 0 (length ds) is.0) (digits_tested ds is.1)

numeral_told : (ds : List ℕ) → is_numeral ds ≡ true → IsNumeral 10 ds
numeral_told ds e = let parts = both _ _ e in (ltb-true _ _ parts.0, digits_told ds parts.1)

-- the number that is parsed of a text, or none
parsed_number : (bits : ℕ) {E : Type 0} (text : Text) (r : Result ℕ E) → ParsesUnsigned bits 10 text r →
    number_of bits text ≡ result_ok r
parsed_number bits text (Ok n) is =
    let digits = without_leading_plus text in
    rw (numeral_tested digits is.0.0, lt-ltb (digits_value 10 digits) (2 ^ bits) is.0.1) (ap Some (sym is.1))
parsed_number bits text (Err e) is = by_test (is_numeral (without_leading_plus text)) refl
  where
    by_size : is_numeral (without_leading_plus text) ≡ true → (b : Bool) →
        nat_lt (digits_value 10 (without_leading_plus text)) (2 ^ bits) ≡ b →
        number_of bits text ≡ None
    by_size numeral true small =
        absurd (is (numeral_told (without_leading_plus text) numeral, ltb-true _ _ small))
    by_size numeral false big = rw (numeral, big) refl

    by_test : (b : Bool) → is_numeral (without_leading_plus text) ≡ b → number_of bits text ≡ None
    by_test true numeral = by_size numeral (nat_lt (digits_value 10 (without_leading_plus text)) (2 ^ bits)) refl
    by_test false numeral = rw numeral refl

-- what `get_one` gives of an id, by what its type's `from_str` says
pub number_read : (bits : ℕ) (E : Type 0) (G : Text → Result ℕ E → Type 0) →
    ((u : Text) (x : Result ℕ E) → G u x → ParsesUnsigned bits 10 u x) →
    (f : Found) (id : Text) (r : Option ℕ) → (one_text f id ≡ None → r ≡ None) → ((t : Text) → one_text f id ≡ Some t → ReadsOne G t r) →
    r ≡ number_in bits id (rows_of f)
number_read bits E G only f id r none reads = by_text (one_text f id) refl ∙ ap (option_and_then (number_of bits)) (one_text-rows f id)
  where
    by_answer : (t : Text) (o : Option ℕ) → ReadsOne G t o → o ≡ number_of bits t
    by_answer t None gives = sym (parsed_number bits {E = E} t (Err gives.0) (only t (Err gives.0) gives.1))
    by_answer t (Some n) gives = sym (parsed_number bits {E = E} t (Ok n) (only t (Ok n) gives))

    by_text : (o : Option Text) → one_text f id ≡ o → r ≡ option_and_then (number_of bits) (one_text f id)
    by_text None is = none is ∙ sym (ap (option_and_then (number_of bits)) is)
    by_text (Some t) is = by_answer t r (reads t is) ∙ sym (ap (option_and_then (number_of bits)) is)

-- ---- flags

parsed_flag : {E : Type 0} (text : Text) (r : Result Bool E) → ParsesBool text r →
    bytes_eq text (codes "true") ≡ unwrap_or (result_ok r) false
parsed_flag text (Ok true) is = (bytes_eq-Decides text (codes "true")).1 is
parsed_flag text (Ok false) is = rw is refl
parsed_flag text (Err e) is = by_test (bytes_eq text (codes "true")) refl
  where
    by_test : (b : Bool) → bytes_eq text (codes "true") ≡ b → bytes_eq text (codes "true") ≡ false
    by_test true same = absurd (is.0 ((bytes_eq-Decides text (codes "true")).0 same))
    by_test false other = other

-- whether `get_one` gives true of an id
pub flag_read : (E : Type 0) (f : Found) (id : Text) (r : Option Bool) → (one_text f id ≡ None → r ≡ None) →
    ((t : Text) → one_text f id ≡ Some t → ReadsOne (ParsesBool {E = E}) t r) → unwrap_or r false ≡ flag_in id (rows_of f)
flag_read E f id r none reads = by_text (one_text f id) refl ∙ ap is_true (one_text-rows f id)
  where
    by_answer : (t : Text) (o : Option Bool) → ReadsOne (ParsesBool {E = E}) t o → unwrap_or o false ≡ is_true (Some t)
    by_answer t None gives = sym (parsed_flag {E = E} t (Err gives.0) gives.1)
    by_answer t (Some b) gives = sym (parsed_flag {E = E} t (Ok b) gives)

    by_text : (o : Option Text) → one_text f id ≡ o → unwrap_or r false ≡ is_true (one_text f id)
    by_text None is = ap (λ (o : Option Bool). unwrap_or o false) (none is) ∙ sym (ap is_true is)
    by_text (Some t) is = by_answer t r (reads t is) ∙ sym (ap is_true is)
