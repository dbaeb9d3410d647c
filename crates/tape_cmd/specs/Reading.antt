-- The reading of words (this project's own).
use Rattle.std.specs.Prelude.{ℕ, List, Option, None, Some}
use Rattle.command_spec.specs.declared.words.Words.{Words}
use Rattle.command_spec.specs.Machine.{HasValues, Spells, SpellsNone}

-- the reading of words: a command, with its values; or they are those of none
abbrev pub ReadsCommand : List (List ℕ) → Option Words → Type 0
ReadsCommand words None = SpellsNone words
ReadsCommand words (Some command) = Spells words command × HasValues command
