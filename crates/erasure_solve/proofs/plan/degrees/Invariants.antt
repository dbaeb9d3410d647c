use Rattle.erasure_solve.proofs.Places.{Gathered}
use Rattle.erasure_solve.proofs.plan.degrees.Given as goal

abbrev pub invariant-loop-place : goal.invariant-loop-place
invariant-loop-place l = Gathered l.lost l.count l.place l.found l.degrees
