use Rattle.segment_salvage.proofs.BufferCells.{buffer_is_piece}
use Rattle.segment_salvage.proofs.laws.buffer_is_piece.Goals as goal

pub returns : goal.returns
returns c = buffer_is_piece
