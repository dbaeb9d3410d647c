-- So many volumes were given, and none of them has the number.
use Rattle.std.proofs.Common.{◌≡◌, ◌<◌, ◌⊎◌, drop, length}
use Rattle.dump_spec.specs.Volumes.{volumes_of}
use Rattle.dump_volumes.specs.Left.{left_of, given_by}
use Rattle.dump_volumes.proofs.walk.numbered.Given as goal

abbrev pub invariant-loop-volume : goal.invariant-loop-volume
invariant-loop-volume l = record {
  left : drop (given_by l.walk) (volumes_of l.counts l.table l.area) ≡ left_of l.walk l.area;
  before : (l.number ≡ 0) ⊎ (given_by l.walk < l.number);
}

abbrev pub decreases-loop-volume : goal.decreases-loop-volume
decreases-loop-volume l = length (left_of l.walk l.area)
