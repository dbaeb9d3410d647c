use Rattle.std.proofs.Common.{◌≡◌, ℕ, ◌+◌, ◌<◌, get_or}
use Rattle.erasure_solve.proofs.values.Values.put.Given as goal

abbrev pub invariant-loop-j : goal.invariant-loop-j
invariant-loop-j l = record {
  scale : l.self.scale ≡ l.initial.self.scale;
  reversed : (k : ℕ) → k < l.j → get_or l.self.reversed (l.start + k) 0 ≡ get_or l.strip.reversed k 0;
  at_one : (k : ℕ) → k < l.j → get_or l.self.at_one (l.start + k) 0 ≡ get_or l.strip.at_one k 0;
  at_generator : (k : ℕ) → k < l.j → get_or l.self.at_generator (l.start + k) 0 ≡ get_or l.strip.at_generator k 0;
  before_reversed : (k : ℕ) → k < l.start → get_or l.self.reversed k 0 ≡ get_or l.initial.self.reversed k 0;
  before_one : (k : ℕ) → k < l.start → get_or l.self.at_one k 0 ≡ get_or l.initial.self.at_one k 0;
  before_generator : (k : ℕ) → k < l.start → get_or l.self.at_generator k 0 ≡ get_or l.initial.self.at_generator k 0;
}
