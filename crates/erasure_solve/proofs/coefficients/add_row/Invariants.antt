use Rattle.std.proofs.Common.{◌≡◌, ℕ, ◌<◌, ◌≤◌, length, get_or, bit_xor}
use Rattle.erasure_solve.proofs.coefficients.add_row.Given as goal

abbrev pub invariant-loop-j : goal.invariant-loop-j
invariant-loop-j l = record {
  size : length l.sector ≡ 1024;
  done : (k : ℕ) → k < l.j → get_or l.sector k 0 ≡ bit_xor (get_or l.initial.sector k 0) (get_or l.row k 0);
  open' : (k : ℕ) → l.j ≤ k → get_or l.sector k 0 ≡ get_or l.initial.sector k 0;
}
