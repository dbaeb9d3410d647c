-- The last among the sectors that were looked at.
use Rattle.std.proofs.Common.{◌≡◌}
use Rattle.drive_states.specs.Reach.{last_passed}
use Rattle.drive_states.proofs.effects.last_passed.Given as goal

abbrev pub invariant-loop-index : goal.invariant-loop-index
invariant-loop-index l = l.last ≡ last_passed l.fn.asked l.fn.blank l.index
