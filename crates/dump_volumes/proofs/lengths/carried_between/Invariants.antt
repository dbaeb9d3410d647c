-- The segments before the present one are added up.
use Rattle.std.proofs.Common.{◌≡◌, ℕ, ◌-◌, ◌*◌, ◌≤◌}
use Rattle.std.specs.Prelude.{sum_by}
use Rattle.std.specs.List.{range_with_len}
use Rattle.cartridge_spec.specs.Shape.{capacity}
use Rattle.dump_volumes.specs.Masks.{HoldMasks}
use Rattle.dump_volumes.proofs.lengths.carried_between.Given as goal

abbrev pub invariant-loop-segment : goal.invariant-loop-segment
invariant-loop-segment l = record {
  bytes : (of : ℕ → ℕ) → HoldMasks l.masks of →
      l.bytes ≡ sum_by (λ s. capacity (of s)) (range_with_len l.first (l.segment - l.first));
  small : l.bytes ≤ 29696 * (l.segment - l.first);
  within : l.segment ≤ 65536;
  none : l.segment-end ≤ l.first → l.segment ≡ l.first;
}
