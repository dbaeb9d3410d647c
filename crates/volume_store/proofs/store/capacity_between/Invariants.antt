-- The segments before the present one are added up.
use Rattle.std.proofs.Common.{◌≡◌, ◌-◌, ◌*◌, ◌≤◌, ◌^◌}
use Rattle.std.specs.Prelude.{sum_by}
use Rattle.std.specs.List.{range_with_len}
use Rattle.cartridge_spec.specs.Shape.{mask_at, capacity}
use Rattle.volume_store.proofs.store.capacity_between.Given as goal

abbrev pub invariant-loop-segment : goal.invariant-loop-segment
invariant-loop-segment l =
    (l.bytes ≡ sum_by (λ s. capacity (mask_at l.map s)) (range_with_len l.start (l.segment - l.start)))
    × (l.bytes ≤ 2 ^ 32 * (l.segment - l.start))
    × (l.segment-end ≤ l.start → l.segment ≡ l.start)
