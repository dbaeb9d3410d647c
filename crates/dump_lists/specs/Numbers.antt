-- What is kept of the numbers of a line: no list takes more than two (this project's own).
use Rattle.std.specs.Prelude.{ℕ, List, [], ◌∷◌, Option, Some, None}
use Rattle.dump_spec.specs.Lists.{numbers_of}
use Rattle.dump_lists.specs.declared.numbers.Numbers.{Numbers}
use Rattle.dump_lists.specs.declared.numbers.Numbers.TheVariants.{Nothing, One, Two, Bad}

-- with a number more
abbrev pub pushed : Numbers → ℕ → Numbers
pushed Nothing n = One n
pushed (One first) n = Two first n
pushed (Two first second) n = Bad
pushed Bad n = Bad

abbrev pub all_pushed : Numbers → List ℕ → Numbers
all_pushed numbers [] = numbers
all_pushed numbers (n ∷ ns) = all_pushed (pushed numbers n) ns

-- with the numbers behind them; none where the line is at fault
abbrev pub behind : Numbers → Option (List ℕ) → Numbers
behind numbers None = Bad
behind numbers (Some ns) = all_pushed numbers ns

-- with those that words are
abbrev pub behind_words : Numbers → List (List ℕ) → Numbers
behind_words numbers words = behind numbers (numbers_of words)

-- what is kept of the numbers of a line
abbrev pub kept : Option (List ℕ) → Numbers
kept numbers = behind Nothing numbers
