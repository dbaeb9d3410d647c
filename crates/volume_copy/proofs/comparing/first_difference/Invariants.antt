-- The volumes before the index are alike.
use Rattle.std.proofs.Common.{◌≡◌, ◌+◌, drop}
use Rattle.command_spec.specs.Copying.{difference}
use Rattle.volume_copy.proofs.comparing.first_difference.Given as goal

abbrev pub invariant-loop-index : goal.invariant-loop-index
invariant-loop-index l =
    difference l.from.words l.from.entries l.to.words l.to.entries 1
    ≡ difference l.from.words (drop l.index l.from.entries) l.to.words (drop l.index l.to.entries) (l.index + 1)
