-- The set has the places below the index that can't be read.
use Rattle.dump_reader.proofs.SetsBelow.{IsSetBelow}
use Rattle.dump_reader.specs.Piece.{is_unread}
use Rattle.dump_reader.proofs.piece.unread_sectors.Given as goal

abbrev pub invariant-loop-index : goal.invariant-loop-index
invariant-loop-index l = IsSetBelow l.unread l.index (is_unread l.rescued l.start l.held)
