-- The line that a scrub prints of a header copy (this project's own).
use Rattle.std.specs.Prelude.{ℕ, List, ◌++◌, codes, decimal}

-- the line of a header copy that doesn't read
abbrev pub header_line : (copy : ℕ) → List ℕ
header_line copy = codes "header " ++ decimal copy ++ codes " unreadable\n"
