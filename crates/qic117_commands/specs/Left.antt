-- The levels that a shifter has still to show, by its two counts.
use Rattle.std.specs.Prelude.{ℕ, zero, suc, Bool, true, List, [], ◌∷◌, ◌++◌}
use Rattle.qic117_commands.specs.Digits.{digits}

-- of `left` levels the last is the final 1, and those before it are digits of a number
unfoldable pub levels_left : ℕ → ℕ → List Bool
levels_left zero number = []
levels_left (suc before) number = digits before number ++ true ∷ []
