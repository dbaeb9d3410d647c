-- What the words of a call ask for besides commands (this project's own).
use Rattle.std.specs.Prelude.{◌≡◌, ◌⊎◌, ℕ, List, [], ◌∷◌, codes}
use Rattle.message_text.specs.Asked.{IsHelpWord, IsVersionWord}

-- help as the only word, or the word `help` after an image
abbrev pub IsHelpCall : (images command : List (List ℕ)) → Type 0
IsHelpCall (word ∷ []) [] = (word ≡ codes "help") ⊎ IsHelpWord word
IsHelpCall (image ∷ []) (word ∷ []) = word ≡ codes "help"
IsHelpCall images command = ⊥

-- the version as the only word
abbrev pub IsVersionCall : (images command : List (List ℕ)) → Type 0
IsVersionCall (word ∷ []) [] = IsVersionWord word
IsVersionCall images command = ⊥
