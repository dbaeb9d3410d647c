-- The sectors below the index are gathered.
use Rattle.segment_salvage.proofs.CellsGathered.{IsGathered}
use Rattle.segment_salvage.proofs.gathering.gather.Given as goal

abbrev pub invariant-loop-index : goal.invariant-loop-index
invariant-loop-index l = IsGathered l.usable l.unread l.lost l.place l.index l.fn.sectors l.sectors
