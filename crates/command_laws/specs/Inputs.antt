-- The input of `pulses` and that of `script`: its lines, and what they are (this project's own).
use Rattle.std.specs.Prelude.{ℕ, List, ◌⊎◌, ◌++◌, ◌==◌, ◌≡◌}
use Rattle.command_spec.specs.Input.{AtEnd, AtStop, IsPulses, IsScript, Item, line_forms}
use Rattle.std.specs.List.{slice_split}
use Rattle.command_spec.specs.Command.{HasForm, SpellsPart, Number}
use Rattle.command_spec.specs.declared.line.Line.{Line}

-- lines of trains, up to the end of the input or to the line `end`
abbrev pub IsOfTrains : (input : List ℕ) → Type 0
IsOfTrains input = (trains : List ℕ) × (IsPulses input trains AtEnd ⊎ IsPulses input trains AtStop)

-- lines of a script, each append's with its bytes, up to the end of the input or to the line `end`
abbrev pub IsOfLines : (input : List ℕ) → Type 0
IsOfLines input = (items : List Item) × (IsScript input items AtEnd ⊎ IsScript input items AtStop)

-- the words of a line: what stands before, between and behind its spaces
abbrev pub words_of : List ℕ → List (List ℕ)
words_of text = slice_split (λ b. b == 0x20) text

-- the words are those of a line
abbrev pub HasLineForm : List (List ℕ) → Line → Type 0
HasLineForm words line = HasForm words (line_forms line)

-- the bytes before a newline are those of a script's line
abbrev pub IsLine : List ℕ → Line → Type 0
IsLine before line = HasLineForm (words_of before) line

-- the bytes before a newline are a number of pulses
abbrev pub IsTrain : List ℕ → ℕ → Type 0
IsTrain before pulses = SpellsPart before (Number 0 255 pulses)

-- an item begins the input
abbrev pub HasItem : {I : Type 0} → (List ℕ → I → Type 0) → List ℕ → Type 0
HasItem {I} Spelled input = (item : I) × ((text : List ℕ) × ((rest : List ℕ) × ((input ≡ text ++ rest) × Spelled text item)))
