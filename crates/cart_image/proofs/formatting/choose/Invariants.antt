use Rattle.std.proofs.Common.{◌≡◌, ℕ, ◌<◌, false, length, get_or}
use Rattle.std.specs.Prelude.{◌==◌, ◌&&◌, not}
use Rattle.cart_image.specs.Layout.{open_gate, formed_byte, defect_byte}
use Rattle.cart_image.proofs.formatting.choose.Given as goal

abbrev pub invariant-loop-i : goal.invariant-loop-i
invariant-loop-i l = record {
  long_usable : length l.usable ≡ 32;
  long_readable : length l.readable ≡ 32;
  long_unformed : length l.unformed ≡ 32;
  usable : (k : ℕ) → k < l.i → get_or l.usable k false ≡ not (get_or l.marks.defects k 0 == defect_byte);
  readable : (k : ℕ) → k < l.i → get_or l.readable k false ≡ (not (get_or l.marks.defects k 0 == defect_byte) &&
      (get_or l.marks.gates k 0 == open_gate));
  unformed : (k : ℕ) → k < l.i → get_or l.unformed k false ≡ (not (get_or l.marks.defects k 0 == defect_byte) && not
      (get_or l.marks.formed k 0 == formed_byte));
}
