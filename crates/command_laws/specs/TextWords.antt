-- Words are those of one command, or of none, as facts (this project's own).
use Rattle.std.specs.Prelude.{ℕ, List, ◌≡◌, ◌⊎◌}
use Rattle.command_spec.specs.declared.words.Words.{Words}
use Rattle.command_spec.specs.Machine.{Spells}

-- no command has these words
abbrev pub IsNoCommand : List (List ℕ) → Type 0
IsNoCommand words = (command : Words) → Spells words command → ⊥

-- each list of words has at most one command
abbrev pub OneCommand : Type 0
OneCommand = (words : List (List ℕ)) (a b : Words) → Spells words a → Spells words b → a ≡ b

-- each list of words is that of a command or of none
abbrev pub EachWords : Type 0
EachWords = (words : List (List ℕ)) → ((command : Words) × Spells words command) ⊎ IsNoCommand words
