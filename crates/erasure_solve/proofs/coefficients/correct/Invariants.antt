use Rattle.std.proofs.Common.{◌≡◌, ℕ, ◌<◌, ◌≤◌, get_or, bit_xor}
use Rattle.erasure_solve.specs.Rows.{weighed_by}
use Rattle.erasure_solve.proofs.coefficients.correct.Given as goal

abbrev pub invariant-loop-j : goal.invariant-loop-j
invariant-loop-j l = record {
  at_first : (k : ℕ) → k < l.j → get_or l.values.reversed k 0 ≡ weighed_by l.p l.q l.r l.initial.values k;
  at_second : (k : ℕ) → k < l.j → get_or l.values.at_one k 0 ≡ weighed_by l.u l.v l.w l.initial.values k;
  at_third : (k : ℕ) → k < l.j → get_or l.values.at_generator k 0
      ≡ bit_xor (bit_xor (weighed_by l.p l.q l.r l.initial.values k) (weighed_by l.u l.v l.w l.initial.values k))
      (get_or l.initial.values.at_one k 0);
  open_reversed : (k : ℕ) → l.j ≤ k → get_or l.values.reversed k 0 ≡ get_or l.initial.values.reversed k 0;
  open_one : (k : ℕ) → l.j ≤ k → get_or l.values.at_one k 0 ≡ get_or l.initial.values.at_one k 0;
  open_generator : (k : ℕ) → l.j ≤ k → get_or l.values.at_generator k 0 ≡ get_or l.initial.values.at_generator k 0;
}
