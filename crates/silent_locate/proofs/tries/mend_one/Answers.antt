use Rattle.std.proofs.Common.{arith}
use Rattle.silent_locate.proofs.tries.mend_one.Goals as goal

pub returns-clause-none : goal.returns-clause-none
returns-clause-none c = λ place few within solvable.
    c.loop-place.invariant.none place (omega arith) solvable
