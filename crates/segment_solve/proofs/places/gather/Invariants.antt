-- The usable sectors below the index are gathered.
use Rattle.segment_solve.proofs.GatheredCells.{IsGathered}
use Rattle.segment_solve.proofs.places.gather.Given as goal

abbrev pub invariant-loop-index : goal.invariant-loop-index
invariant-loop-index l = IsGathered l.usable l.good l.lost l.place l.index l.fn.sectors l.sectors
