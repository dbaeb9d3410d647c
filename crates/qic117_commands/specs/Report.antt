-- The form of a report. Standard: QIC-117, the report of a word.
use Rattle.std.specs.Prelude.{◌≡◌, ℕ, ◌⊎◌, Bool, true, false, List, [], ◌∷◌, ◌++◌, take, drop, Option, Some, None}
use Rattle.qic117_commands.specs.Digits.{digits, value}

-- how many bits a report may show (QIC-117)
abbrev pub IsWidth : ℕ → Type 0
IsWidth width = (width ≡ 8) ⊎ (width ≡ 16)

-- what a report of a word shows after its acknowledgement: the word's digits, the least first, then
-- the final 1 (QIC-117)
abbrev pub levels_of : ℕ → ℕ → List Bool
levels_of width word = digits width word ++ true ∷ []

-- all that a report of a word shows: the acknowledgement 1, then those levels (QIC-117)
abbrev pub report_of : ℕ → ℕ → List Bool
report_of width word = true ∷ levels_of width word

-- what a collector of a width has: the levels that it took, at most `width` and one further
pub record Collected : Type 0 where
  pub width : ℕ
  pub levels : List Bool

-- the word of digits, where the final 1 and nothing else follows them
abbrev pub word_before : List Bool → List Bool → Option ℕ
word_before digits [] = None
word_before digits (level ∷ more ∷ rest) = None
word_before digits (false ∷ []) = None
word_before digits (true ∷ []) = Some (value digits)

-- the word of the levels that followed an acknowledgement (QIC-117)
unfoldable pub word_of : ℕ → List Bool → Option ℕ
word_of width levels = word_before (take width levels) (drop width levels)
