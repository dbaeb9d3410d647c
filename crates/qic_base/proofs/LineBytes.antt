-- Bytes without a newline, byte by byte.
use Rattle.std.proofs.Common.{ℕ, suc, List, ◌∷◌, arith, ◌≢◌}
use Rattle.qic_base.specs.LineBytes.{NoNewline}

pub NoNewline-tail : (x : ℕ) (xs : List ℕ) → NoNewline (x ∷ xs) → NoNewline xs
NoNewline-tail x xs none k d here = none (suc k) d (omega arith)

pub NoNewline-head : (x : ℕ) (xs : List ℕ) → NoNewline (x ∷ xs) → x ≢ 0x0A
NoNewline-head x xs none = none 0 x (omega arith)
