-- Binary digits, the least first. Standard: QIC-117, the bits of a report.
use Rattle.std.specs.Prelude.{ℕ, zero, suc, ◌+◌, ◌*◌, ◌/◌, ◌%◌, ◌==◌, Bool, if◌then◌else◌, List, [], ◌∷◌}

-- the lowest `width` binary digits of a number
unfoldable pub digits : ℕ → ℕ → List Bool
digits zero number = []
digits (suc width) number = (number % 2 == 1) ∷ digits width (number / 2)

-- the number that has these binary digits
unfoldable pub value : List Bool → ℕ
value [] = 0
value (digit ∷ digits) = (if digit then 1 else 0) + 2 * value digits
