-- What a single word asks for (this project's own).
use Rattle.std.specs.Prelude.{◌≡◌, ◌⊎◌, ℕ, List, [], ◌∷◌, codes}

abbrev pub IsHelpWord : List ℕ → Type 0
IsHelpWord word = (word ≡ codes "--help") ⊎ (word ≡ codes "-h")

abbrev pub IsVersionWord : List ℕ → Type 0
IsVersionWord word = word ≡ codes "--version"

-- there is one word, such a one
abbrev pub IsHelp : (words : List (List ℕ)) → Type 0
IsHelp (word ∷ []) = IsHelpWord word
IsHelp words = ⊥

abbrev pub IsVersion : (words : List (List ℕ)) → Type 0
IsVersion (word ∷ []) = IsVersionWord word
IsVersion words = ⊥
