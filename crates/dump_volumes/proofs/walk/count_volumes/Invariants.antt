-- The volumes that were given and those that are left are all.
use Rattle.std.proofs.Common.{◌≡◌, ◌+◌, length}
use Rattle.dump_spec.specs.Volumes.{volumes_of}
use Rattle.std.proofs.Common.{false}
use Rattle.dump_volumes.specs.Left.{left_of, given_by}
use Rattle.dump_volumes.proofs.walk.count_volumes.Given as goal

abbrev pub invariant-loop-volume : goal.invariant-loop-volume
invariant-loop-volume l = given_by l.walk + length (left_of l.walk l.area) ≡ length (volumes_of false 0 l.area)

abbrev pub decreases-loop-volume : goal.decreases-loop-volume
decreases-loop-volume l = length (left_of l.walk l.area)
