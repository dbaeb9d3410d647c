use Rattle.std.proofs.Common.{◌≡◌, ℕ, ◌<◌, List, length}
use Rattle.std.specs.Prelude.{slice_index, slice_index_or}
use Rattle.cart_image.specs.declared.reading.SectorState.TheVariants as state
use Rattle.cart_image.specs.Image.{view_by}
use Rattle.cart_image.specs.State.{state_of}
use Rattle.cart_image.proofs.reading.states_by.Given as goal

abbrev pub invariant-loop-i : goal.invariant-loop-i
invariant-loop-i l = record {
  long : length l.states ≡ 32;
  each : (k : ℕ) → k < l.i → (bytes : List ℕ) → slice_index_or l.states k state.Blank ≡ state_of
      (view_by (slice_index l.marks.defects k) (slice_index l.marks.formed k) (slice_index l.marks.gates k) bytes);
}
