-- Words are those of one command, or of none.
use Rattle.std.proofs.Common.{inl, inr, ℕ, List, [], ◌∷◌, ◌≡◌, ◌⊎◌, ◌∙◌, sym, codes, subst}
use Rattle.command_laws.proofs.CommandTable.{guess, guess_is}
use Rattle.command_laws.proofs.TextCommands.{date_value, dated_cases}
use Rattle.command_laws.proofs.TextDeciding.{has_form}
use Rattle.command_laws.specs.TextWords.{OneCommand, IsNoCommand}
use Rattle.command_spec.specs.Command.{IsDateWord, Word, Name}
use Rattle.command_laws.specs.CommandFields.{word_forms}
use Rattle.command_spec.specs.declared.words.Words.{Words}
use Rattle.qic_base.specs.Field.{filled}
use Rattle.command_spec.specs.Machine.{Spells}
use Rattle.command_spec.specs.declared.words.Words.TheVariants as words

pub one_command : OneCommand
one_command ws a b first next = sym (guess_is ws a first) ∙ guess_is ws b next

-- words are those of a command, or of none
pub each_words : (words : List (List ℕ)) → ((command : Words) × Spells words command) ⊎ IsNoCommand words
each_words words = elim (has_form words (word_forms (guess words))) [
  | inl is ↦ inl (guess words, is)
  | inr none ↦ inr (λ command h. none (let P : Words → Type 0 = λ c. Spells words c in subst P (sym (guess_is words command h)) h))
]

-- ---- words with a date that is none

pub no_dated_format : (label date : List ℕ) → ((n : ℕ) → IsDateWord date n → ⊥) → IsNoCommand (codes "format" ∷ label ∷ date ∷ [])
unfolding guess
no_dated_format label date none command h =
    let is : words.Format (filled label) (date_value date) ≡ command = guess_is (codes "format" ∷ label ∷ date ∷ []) command h in
    let P : Words → Type 0 = λ c. Spells (codes "format" ∷ label ∷ date ∷ []) c in
    elim (dated_cases (codes "format" ∷ label ∷ date ∷ []) (Word (codes "format") ∷ Name (filled label) ∷ []) (date_value date)
    (subst P (sym is) h)) [
      | inl full ↦ none (date_value date) full.1.1.0
      | inr bare ↦ absurd bare.0.1.1
    ]

pub no_dated_append : (name date : List ℕ) → ((n : ℕ) → IsDateWord date n → ⊥) → IsNoCommand (codes "append" ∷ name ∷ date ∷ [])
unfolding guess
no_dated_append name date none command h =
    let is : words.Append (filled name) (date_value date) ≡ command = guess_is (codes "append" ∷ name ∷ date ∷ []) command h in
    let P : Words → Type 0 = λ c. Spells (codes "append" ∷ name ∷ date ∷ []) c in
    elim (dated_cases (codes "append" ∷ name ∷ date ∷ []) (Word (codes "append") ∷ Name (filled name) ∷ []) (date_value date)
    (subst P (sym is) h)) [
      | inl full ↦ none (date_value date) full.1.1.0
      | inr bare ↦ absurd bare.0.1.1
    ]
