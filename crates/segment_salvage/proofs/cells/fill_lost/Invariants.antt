-- The sectors below the place are filled where they are lost, and the others are as they were.
use Rattle.segment_salvage.proofs.Filling.{IsFilledBelow}
use Rattle.segment_salvage.proofs.cells.fill_lost.Given as goal

abbrev pub invariant-loop-place : goal.invariant-loop-place
invariant-loop-place l = IsFilledBelow l.lost l.place l.fn.sectors l.sectors
