-- So many of the segments below are there.
use Rattle.std.proofs.Common.{◌≡◌, ◌≤◌}
use Rattle.dump_reader.proofs.Counting.{there_below}
use Rattle.dump_reader.proofs.first.count_there.Given as goal

abbrev pub invariant-loop-segment : goal.invariant-loop-segment
invariant-loop-segment l = record {
  there : l.count ≡ there_below l.missing l.first l.segment;
  few : l.count ≤ l.segment;
}
