use Rattle.std.proofs.Common.{◌≡◌, ℕ, ◌+◌, ◌<◌, ◌≤◌, get_or, bit_xor}
use Rattle.cartridge_spec.specs.Code.{product}
use Rattle.erasure_solve.proofs.values.Strip.add.Given as goal

abbrev pub invariant-loop-j : goal.invariant-loop-j
invariant-loop-j l = record {
  reversed : (k : ℕ) → k < l.j → get_or l.self.reversed k 0
      ≡ bit_xor (product (get_or l.initial.self.reversed k 0) 2) (get_or l.from_end (l.start + k) 0);
  at_one : (k : ℕ) → k < l.j → get_or l.self.at_one k 0
      ≡ bit_xor (get_or l.initial.self.at_one k 0) (get_or l.sector (l.start + k) 0);
  at_generator : (k : ℕ) → k < l.j → get_or l.self.at_generator k 0
      ≡ bit_xor (product (get_or l.initial.self.at_generator k 0) 2) (get_or l.sector (l.start + k) 0);
  open_reversed : (k : ℕ) → l.j ≤ k → get_or l.self.reversed k 0 ≡ get_or l.initial.self.reversed k 0;
  open_one : (k : ℕ) → l.j ≤ k → get_or l.self.at_one k 0 ≡ get_or l.initial.self.at_one k 0;
  open_generator : (k : ℕ) → l.j ≤ k → get_or l.self.at_generator k 0 ≡ get_or l.initial.self.at_generator k 0;
}
