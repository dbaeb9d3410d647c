use Rattle.std.proofs.Common.{◌+◌, ◌-◌, ◌≤◌}
use Rattle.dump_header.proofs.Entries.{ListSoFar}
use Rattle.dump_header.proofs.list.mark_list.Given as goal

abbrev pub invariant-loop-at : goal.invariant-loop-at
invariant-loop-at l = record {
  far : ListSoFar l.area l.offset l.at l.initial.words l.words;
  within : l.at ≤ 29696;
}

abbrev pub decreases-loop-at : goal.decreases-loop-at
decreases-loop-at l = 29696 + 1 - l.at
