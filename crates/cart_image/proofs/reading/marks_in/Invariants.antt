use Rattle.std.proofs.Common.{◌≡◌, ℕ, ◌+◌, ◌*◌, ◌<◌, length, get_or}
use Rattle.cart_image.specs.Layout.{cell_len}
use Rattle.cart_image.proofs.reading.marks_in.Given as goal

abbrev pub invariant-loop-i : goal.invariant-loop-i
invariant-loop-i l = record {
  long_gates : length l.gates ≡ 32;
  long_formed : length l.formed ≡ 32;
  long_defects : length l.defects ≡ 32;
  gates : (k : ℕ) → k < l.i → get_or l.gates k 0 ≡ get_or l.cells (cell_len * k) 0;
  formed : (k : ℕ) → k < l.i → get_or l.formed k 0 ≡ get_or l.cells (cell_len * k + 1) 0;
  defects : (k : ℕ) → k < l.i → get_or l.defects k 0 ≡ get_or l.cells (cell_len * k + 2) 0;
}
