-- The forms of a script's lines, and the items that they begin.
use Rattle.std.proofs.Common.{◌≡◌, ℕ, List, [], ◌∷◌, refl, codes, if◌then◌else◌, inl, inr, length, ap, sym, ◌∙◌, subst}
use Rattle.std.specs.List.{AllZip}
use Rattle.std.specs.Str.{bytes_eq}
use Rattle.command_laws.proofs.TextCommands.{number_value, date_value, only, dated_cases, one_word, two_words, three_words, IsNumber-value}
use Rattle.command_laws.proofs.TextCommands.{IsDateWord-value}
use Rattle.command_laws.specs.TextInput.{OneLine}
use Rattle.command_spec.specs.Command.{Part, SpellsPart, Word, Name, IsDateWord, AnyNumber}
use Rattle.command_laws.specs.Inputs.{HasLineForm}
use Rattle.command_spec.specs.declared.line.Line.{Line}
use Rattle.qic_base.specs.Field.{filled}
use Rattle.command_spec.specs.declared.line.Line.TheVariants as line

pub record Four (ws : List (List ℕ)) (p q r s : Part) : Type 0 where
  pub first : List ℕ
  pub second : List ℕ
  pub third : List ℕ
  pub fourth : List ℕ
  pub are : ws ≡ first ∷ second ∷ third ∷ fourth ∷ []
  pub one : SpellsPart first p
  pub two : SpellsPart second q
  pub three : SpellsPart third r
  pub four : SpellsPart fourth s

four_words : (ws : List (List ℕ)) (p q r s : Part) → AllZip SpellsPart ws (p ∷ q ∷ r ∷ s ∷ []) → Four ws p q r s
four_words [] p q r s h = absurd h
four_words (a ∷ []) p q r s h = absurd h.1
four_words (a ∷ b ∷ []) p q r s h = absurd h.1.1
four_words (a ∷ b ∷ c ∷ []) p q r s h = absurd h.1.1.1
four_words (a ∷ b ∷ c ∷ d ∷ []) p q r s h =
    record { first = a; second = b; third = c; fourth = d; are = refl; one = h.0; two = h.1.0; three = h.1.1.0; four = h.1.1.1.0 }
four_words (a ∷ b ∷ c ∷ d ∷ e ∷ rest) p q r s h = absurd h.1.1.1.1

-- ---- the only line that words can be

pub guess : List (List ℕ) → Line
guess [] = line.End
guess (a ∷ []) = if bytes_eq a (codes "list") then line.List else if bytes_eq a (codes "scrub") then line.Scrub else line.End
guess (a ∷ b ∷ []) = line.Restore (number_value b)
guess (a ∷ b ∷ c ∷ []) =
    if bytes_eq a (codes "append") then line.Append (filled b) (number_value c) 0 else line.Lose (number_value b) (number_value c)
guess (a ∷ b ∷ c ∷ d ∷ rest) = line.Append (filled b) (number_value c) (date_value d)

pub guess_is : (ws : List (List ℕ)) (l : Line) → HasLineForm ws l → guess ws ≡ l
unfolding guess
guess_is ws (line.Append name length date) h = elim (dated_cases ws _ date h) [
  | inl full ↦ let s = four_words ws _ _ _ _ full in
      rw (s.are, ← s.two.1, IsNumber-value s.third length s.three.0, IsDateWord-value s.fourth date s.four) refl
  | inr bare ↦ let s = three_words ws _ _ _ bare.0 in
      rw (s.are, s.one, ← s.two.1, IsNumber-value s.third length s.three.0, bare.1) refl
]
guess_is ws line.List h = let s = one_word ws _ (only ws _ h) in rw (s.are, s.one) refl
guess_is ws (line.Restore number) h = let s = two_words ws _ _ (only ws _ h) in
    rw s.are (ap line.Restore (IsNumber-value s.second number s.two.0))
guess_is ws line.Scrub h = let s = one_word ws _ (only ws _ h) in rw (s.are, s.one) refl
guess_is ws (line.Lose segment sector) h =
    let s = three_words ws _ _ _ (only ws _ h) in
    rw (s.are, s.one, IsNumber-value s.second segment s.two.0, IsNumber-value s.third sector s.three.0) refl
guess_is ws line.End h = let s = one_word ws _ (only ws _ h) in rw (s.are, s.one) refl

pub one_line : OneLine
one_line ws a b first next = sym (guess_is ws a first) ∙ guess_is ws b next

-- a line with a date that is none
pub no_dated_line : (name length date : List ℕ) → ((n : ℕ) → IsDateWord date n → ⊥) → (l : Line) →
    HasLineForm (codes "append" ∷ name ∷ length ∷ date ∷ []) l → ⊥
unfolding guess
no_dated_line name length date none l h =
    let is : line.Append (filled name) (number_value length) (date_value date) ≡ l =
    guess_is (codes "append" ∷ name ∷ length ∷ date ∷ []) l h in
    let P : Line → Type 0 = λ x. HasLineForm (codes "append" ∷ name ∷ length ∷ date ∷ []) x in
    elim (dated_cases (codes "append" ∷ name ∷ length ∷ date ∷ [])
    (Word (codes "append") ∷ Name (filled name) ∷ AnyNumber (number_value length) ∷ []) (date_value date) (subst P (sym is) h)) [
      | inl full ↦ none (date_value date) full.1.1.1.0
      | inr bare ↦ absurd bare.0.1.1.1
    ]
