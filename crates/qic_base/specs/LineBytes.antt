-- Bytes of lines (this project's own).
use Rattle.std.specs.Prelude.{ℕ, ◌≤◌, ◌≢◌, List, All}

-- a byte that a line can show: a space to a tilde
abbrev pub IsPrintable : ℕ → Type 0
IsPrintable b = (0x20 ≤ b) × (b ≤ 0x7E)

-- bytes without a newline
abbrev pub NoNewline : List ℕ → Type 0
NoNewline bytes = All (λ b. b ≢ 0x0A) bytes
