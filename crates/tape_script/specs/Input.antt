-- The inputs of `script` and of `pulses`: items, and what ends them (this project's own).
use Rattle.std.specs.Prelude.{ℕ, List}
use Rattle.command_laws.specs.Inputs.{HasLineForm}
use Rattle.command_spec.specs.declared.line.Line.{Line}

-- no line has these words
abbrev pub IsNoLine : List (List ℕ) → Type 0
IsNoLine words = (line : Line) → HasLineForm words line → ⊥
