-- The usable sectors below the index are at their indexes.
use Rattle.segment_io.proofs.ChosenSectors.{IsSpread}
use Rattle.segment_io.proofs.places.spread.Given as goal

abbrev pub invariant-loop-index : goal.invariant-loop-index
invariant-loop-index l = IsSpread l.usable l.place l.index l.fn.sectors l.spread
