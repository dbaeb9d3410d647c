use Rattle.std.proofs.Common.{◌≡◌, ℕ, ◌<◌, length, get_or}
use Rattle.erasure_solve.specs.Rows.{weighed_by}
use Rattle.erasure_solve.proofs.coefficients.weighed.Given as goal

abbrev pub invariant-loop-j : goal.invariant-loop-j
invariant-loop-j l = record {
  done : (k : ℕ) → k < l.j → get_or l.byte-items k 0 ≡ weighed_by l.p l.q l.r l.values k;
  size : length l.byte-items ≡ 1024;
}
