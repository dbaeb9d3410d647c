-- The values that words give a command.
use Rattle.std.proofs.lemmas.Bool.{eqb-true}
use Rattle.std.proofs.Common.{[], if◌then◌else◌, ◌≡◌, ℕ, ◌<◌, ◌^◌, ◌==◌, Bool, true, false, List, ◌∷◌, refl, inl, inr, arith}
use Rattle.std.specs.List.{AllZip}
use Rattle.cartridge_spec.specs.Formatting.{IsLabel}
use Rattle.command_laws.proofs.ScriptValues.{date_is_word, name_is_label}
use Rattle.command_spec.specs.Command.{Word, Name, HasForm, dated, SpellsPart}

-- a label of 44 bytes, or a name, and a date behind a word
pub dated_values : (word : List ℕ) (ws : List (List ℕ)) (label : List ℕ) (date : ℕ) →
    HasForm ws (dated (Word word ∷ Name label ∷ []) date) → IsLabel label × (date < 2 ^ 32)
dated_values word [] label date (inl spelled) = absurd spelled
dated_values word (w ∷ []) label date (inl spelled) = absurd spelled.1
dated_values word (w ∷ name ∷ []) label date (inl spelled) = absurd spelled.1.1
dated_values word (w ∷ name ∷ day ∷ rest) label date (inl spelled) =
    (name_is_label name label spelled.1.0.0 spelled.1.0.1, date_is_word day date spelled.1.1.0)
dated_values word ws label date (inr spelled) = by_date (date == 0) refl spelled
  where
    undated : (vs : List (List ℕ)) → AllZip SpellsPart vs (Word word ∷ Name label ∷ []) → IsLabel label
    undated [] spelled = absurd spelled
    undated (w ∷ []) spelled = absurd spelled.1
    undated (w ∷ name ∷ rest) spelled = name_is_label name label spelled.1.0.0 spelled.1.0.1

    by_date : (zero : Bool) → date == 0 ≡ zero → HasForm ws (if zero then (Word word ∷ Name label ∷ []) ∷ [] else []) → IsLabel label
        × (date < 2 ^ 32)
    by_date true is (inl form) = (undated ws form, let none : date ≡ 0 = eqb-true date 0 is in omega arith)
    by_date true is (inr none) = absurd none
    by_date false is none = absurd none
