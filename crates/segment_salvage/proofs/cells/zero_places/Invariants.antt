-- The set has the places of zero sectors below the place, and no others.
use Rattle.segment_salvage.proofs.Zeros.{IsZeroBelow}
use Rattle.segment_salvage.proofs.cells.zero_places.Given as goal

abbrev pub invariant-loop-place : goal.invariant-loop-place
invariant-loop-place l = IsZeroBelow l.zero l.place l.sectors
