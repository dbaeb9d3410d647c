-- The piece that is looked for is one of those that are left, and no segment was counted twice.
use Rattle.std.proofs.Common.{◌+◌, ◌≤◌}
use Rattle.volume_output.proofs.Parts.{IsAmongLeft}
use Rattle.volume_output.proofs.part.find_part.Given as goal

abbrev pub invariant-loop-segment : goal.invariant-loop-segment
invariant-loop-segment l = record {
  among : IsAmongLeft l.map l.fn.volume.start l.fn.volume.end l.fn.volume.bytes l.number l.segment l.left l.before;
  counted : l.number + l.fn.volume.start ≤ l.before + l.segment;
}
