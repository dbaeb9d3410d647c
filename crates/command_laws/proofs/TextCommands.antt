-- The forms of commands.
use Rattle.std.proofs.Common.{length, ◌≤◌, inl, inr, ℕ, List, [], ◌∷◌, ◌≡◌, ◌⊎◌, zero, suc, ◌+◌, ◌==◌, false, ◌++◌, refl, arith, ◌-◌, ap}
use Rattle.std.proofs.Common.{◌∙◌, ◌*◌, get_or, ◌/◌, ◌%◌, sym}
use Rattle.std.specs.List.{AllZip}
use Rattle.std.proofs.lemmas.Bool.Decides.{nat_tests}
use Rattle.std.specs.Str.Parse.{digits_value}
use Rattle.std.proofs.lemmas.Fmt.{decimal_is_IsNumeral}
use Rattle.command_laws.proofs.TextDates.{HasPair, fields_of}
use Rattle.command_spec.specs.Command.{Part, HasForm, Date, dated, SpellsPart, IsNumber, IsDateWord}
use Rattle.command_spec.specs.declared.words.Words.{Words}
use Rattle.qic_base.specs.Field.{date_word}

-- the only form
pub only : (ws : List (List ℕ)) (form : List Part) → HasForm ws (form ∷ []) → AllZip SpellsPart ws form
only ws form (inl h) = h
only ws form (inr h) = absurd h

-- a form with a date or without one
pub dated_cases : (ws : List (List ℕ)) (form : List Part) (date : ℕ) → HasForm ws (dated form date) →
    AllZip SpellsPart ws (form ++ Date date ∷ []) ⊎ (AllZip SpellsPart ws form × (date ≡ 0))
dated_cases ws form date (inl h) = inl h
dated_cases ws form zero (inr h) = inr (only ws form h, refl)
dated_cases ws form (suc date) (inr h) = let dated : (suc date == 0) ≡ false = grind (arith, nat_tests) in absurd (rw dated at h)

pub record One (ws : List (List ℕ)) (p : Part) : Type 0 where
  pub first : List ℕ
  pub are : ws ≡ first ∷ []
  pub one : SpellsPart first p

pub one_word : (ws : List (List ℕ)) (p : Part) → AllZip SpellsPart ws (p ∷ []) → One ws p
one_word [] p h = absurd h
one_word (a ∷ []) p h = record { first = a; are = refl; one = h.0 }
one_word (a ∷ b ∷ rest) p h = absurd h.1

pub record Two (ws : List (List ℕ)) (p q : Part) : Type 0 where
  pub first : List ℕ
  pub second : List ℕ
  pub are : ws ≡ first ∷ second ∷ []
  pub one : SpellsPart first p
  pub two : SpellsPart second q

pub two_words : (ws : List (List ℕ)) (p q : Part) → AllZip SpellsPart ws (p ∷ q ∷ []) → Two ws p q
two_words [] p q h = absurd h
two_words (a ∷ []) p q h = absurd h.1
two_words (a ∷ b ∷ []) p q h = record { first = a; second = b; are = refl; one = h.0; two = h.1.0 }
two_words (a ∷ b ∷ c ∷ rest) p q h = absurd h.1.1

pub record Three (ws : List (List ℕ)) (p q r : Part) : Type 0 where
  pub first : List ℕ
  pub second : List ℕ
  pub third : List ℕ
  pub are : ws ≡ first ∷ second ∷ third ∷ []
  pub one : SpellsPart first p
  pub two : SpellsPart second q
  pub three : SpellsPart third r

pub three_words : (ws : List (List ℕ)) (p q r : Part) → AllZip SpellsPart ws (p ∷ q ∷ r ∷ []) → Three ws p q r
three_words [] p q r h = absurd h
three_words (a ∷ []) p q r h = absurd h.1
three_words (a ∷ b ∷ []) p q r h = absurd h.1.1
three_words (a ∷ b ∷ c ∷ []) p q r h = record { first = a; second = b; third = c; are = refl; one = h.0; two = h.1.0; three = h.1.1.0 }
three_words (a ∷ b ∷ c ∷ d ∷ rest) p q r h = absurd h.1.1.1

-- ---- how many words there are

pub spelled_length : (ws : List (List ℕ)) (ps : List Part) → AllZip SpellsPart ws ps → length ws ≡ length ps
spelled_length [] [] h = refl
spelled_length [] (p ∷ ps) h = absurd h
spelled_length (w ∷ ws) [] h = absurd h
spelled_length (w ∷ ws) (p ∷ ps) h = ap suc (spelled_length ws ps h.1)

pub dated_length : (ws : List (List ℕ)) (p q : Part) (date : ℕ) → HasForm ws (dated (p ∷ q ∷ []) date) → (2 ≤ length ws) × (length ws ≤ 3)
dated_length ws p q date h = elim (dated_cases ws _ date h) [
  | inl full ↦ let l = spelled_length ws _ full in (omega arith, omega arith)
  | inr bare ↦ let l = spelled_length ws _ bare.0 in (omega arith, omega arith)
]

-- ---- the value of a word

pub number_value : List ℕ → ℕ
number_value word = digits_value 10 word

pub IsNumber-value : (word : List ℕ) (n : ℕ) → IsNumber word n → number_value word ≡ n
unfolding number_value
IsNumber-value word n h =
    ap (digits_value 10) h.digits ∙ (let nine = h.nine in decimal_is_IsNumeral n (omega arith)).1

abbrev pub pair_value : List ℕ → ℕ → ℕ
pair_value word at = 10 * (get_or word at 0 - 48) + (get_or word (at + 1) 0 - 48)

pub pair_is : (word : List ℕ) (at n : ℕ) → HasPair word at n → pair_value word at ≡ n
pair_is word at n h = let few = h.0 in let tens = h.1 in let ones = h.2 in omega arith

pub date_value : List ℕ → ℕ
date_value word =
    date_word (100 * pair_value word 0 + pair_value word 2) (pair_value word 5) (pair_value word 8) (pair_value word 11)
    (pair_value word 14) (pair_value word 17)

pub IsDateWord-value : (word : List ℕ) (date : ℕ) → IsDateWord word date → date_value word ≡ date
unfolding date_value
IsDateWord-value word date d =
    let f = fields_of word date d in
    let year : 100 * pair_value word 0 + pair_value word 2 ≡ d.year =
    (let h = pair_is word 0 (d.year / 100) f.hundreds_at in let y = pair_is word 2 (d.year % 100) f.years_at in omega arith) in
    rw (
      year,
      pair_is word 5 d.month f.month_at,
      pair_is word 8 d.day f.day_at,
      pair_is word 11 d.hour f.hour_at,
      pair_is word 14 d.minute f.minute_at,
      pair_is word 17 d.second f.second_at,
    )
    (sym d.stamped)

-- ---- the only command that words can be

-- the commands that begin with one word: which of them the words behind it make, where they make any
pub record Reading : Type 0 where
  pub name : List ℕ
  pub reads : (behind : List (List ℕ)) → Words

-- the words are read so as the command
pub record IsRead (reading : Reading) (ws : List (List ℕ)) (command : Words) : Type 0 where
  pub behind : List (List ℕ)
  pub are : ws ≡ reading.name ∷ behind
  pub is : reading.reads behind ≡ command

-- words that begin with a name
pub named : {ws : List (List ℕ)} {name first : List ℕ} {behind : List (List ℕ)} → ws ≡ first ∷ behind → first ≡ name → ws ≡ name ∷ behind
named {behind = behind} are is = are ∙ ap (λ word. word ∷ behind) is

-- the word at a place
abbrev pub word_at : List (List ℕ) → ℕ → List ℕ
word_at ws i = get_or ws i []

-- the date behind the first of them, and 0 where none is given
abbrev pub date_behind : List (List ℕ) → ℕ
date_behind (a ∷ b ∷ rest) = date_value b
date_behind ws = 0
