-- The start is that of the segment that is passed next.
use Rattle.std.proofs.Common.{◌≡◌, ◌≤◌, ◌*◌}
use Rattle.dump_reader.specs.Laid.{start_in}
use Rattle.dump_reader.proofs.cursor.Cursor.go_on.Given as goal

abbrev pub invariant-loop-passed : goal.invariant-loop-passed
invariant-loop-passed l = record {
  start : l.start ≡ start_in l.known l.passed;
  near : l.start ≤ 32 * l.passed;
}
