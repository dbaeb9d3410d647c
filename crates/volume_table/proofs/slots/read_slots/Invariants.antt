use Rattle.std.proofs.Common.{◌≤◌, map}
use Rattle.std.specs.Vec.{vec_capacity}
use Rattle.volume_table.specs.Entry.{entry_of}
use Rattle.volume_table.proofs.SoFar.{SoFar}
use Rattle.volume_table.proofs.slots.read_slots.Given as goal

abbrev pub invariant-loop-index : goal.invariant-loop-index
invariant-loop-index l = record {
  so_far : SoFar l.area l.last l.index l.taken l.seen_free (map entry_of l.entries.items);
  room : 232 ≤ vec_capacity l.entries;
}
