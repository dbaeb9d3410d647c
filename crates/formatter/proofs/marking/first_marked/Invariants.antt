-- The segments before the present one have no mark.
use Rattle.std.proofs.Common.{ℕ, ◌<◌}
use Rattle.formatter.specs.Marking.{HasNoMark}
use Rattle.formatter.proofs.marking.first_marked.Given as goal

abbrev pub invariant-loop-segment : goal.invariant-loop-segment
invariant-loop-segment l = (t : ℕ) → t < l.segment → HasNoMark l.map t
