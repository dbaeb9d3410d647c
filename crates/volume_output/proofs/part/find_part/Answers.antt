use Rattle.std.proofs.Common.{◌≡◌, ℕ, ◌<◌, ◌≤◌, sym, arith}
use Rattle.std.specs.Prelude.{min}
use Rattle.cartridge_spec.specs.Shape.{mask_at, capacity}
use Rattle.volume_output.proofs.Parts.{none_left, segment_skipped, piece_here, piece_behind}
use Rattle.volume_output.proofs.Walking.{count_is}
use Rattle.volume_output.proofs.part.find_part.Goals as goal
use Rattle.volume_output.proofs.part.find_part.Goals.{then-count-gt0+else-before-eq0, else-count-gt0}

pub loop-segment-preserved : goal.loop-segment-preserved
loop-segment-preserved c =
    let a = c.args in
    let s : ℕ = c.loop-segment.segment in
    let left : ℕ = c.loop-segment.left in
    let before : ℕ = c.loop-segment.before in
    let count : ℕ = c.min-count.result in
    let past = c.loop-segment-test.true in
    let last = c.from-segment-end.ensures in
    let within : s ≤ a.volume.end = omega arith in
    let is : count ≡ min left (capacity (mask_at a.map.now s)) =
    count_is left count c.from.result c.capacity.result (capacity (mask_at a.map.now s)) c.min-count.ensures c.from.ensures
    c.capacity.ensures in
    let counted = c.loop-segment.invariant.counted in
    elim c.if-count-gt0.branch [
      | then-count-gt0+else-before-eq0 w ↦
          let some : 0 < count = w.if-count-gt0.true in
          let other = w.if-before-eq0.false in
          let more : 0 < before = omega arith in
          rw w.left-is (rw w.before-is (rw w.from-left.ensures (record {
            among = piece_behind a.map.now a.volume.start a.volume.end a.volume.bytes a.number s left before c.loop-segment.invariant.among
                within count is some more;
            counted = omega arith;
          })))
      | else-count-gt0 w ↦
          let none : count ≤ 0 = w.if-count-gt0.false in
          rw w.left-is (rw w.before-is (record {
            among = segment_skipped a.map.now a.volume.start a.volume.end a.volume.bytes a.number s left before
                c.loop-segment.invariant.among within (omega arith);
            counted = omega arith;
          }))
    ]

pub returns-then-before-eq0-clause-is : goal.returns-then-before-eq0-clause-is
returns-then-before-eq0-clause-is c =
    let a = c.args in
    let s : ℕ = c.loop-segment.segment in
    let left : ℕ = c.loop-segment.left in
    let count : ℕ = c.min-count.result in
    let past = c.loop-segment-test.true in
    let last = c.from-segment-end.ensures in
    let within : s ≤ a.volume.end = omega arith in
    let is : count ≡ min left (capacity (mask_at a.map.now s)) =
    count_is left count c.from.result c.capacity.result (capacity (mask_at a.map.now s)) c.min-count.ensures c.from.ensures
    c.capacity.ensures in
    sym (piece_here a.map.now a.volume.start a.volume.end a.volume.bytes a.number s left c.loop-segment.before
    c.loop-segment.invariant.among within count is
    c.if-count-gt0.true c.if-before-eq0.true)

pub returns-clause-is : goal.returns-clause-is
returns-clause-is c =
    let a = c.args in
    let over = c.loop-segment-test.false in
    let last = c.from-segment-end.ensures in
    sym (none_left a.map.now a.volume.start a.volume.end a.volume.bytes a.number c.loop-segment.segment c.loop-segment.left
    c.loop-segment.before
    c.loop-segment.invariant.among (omega arith))
