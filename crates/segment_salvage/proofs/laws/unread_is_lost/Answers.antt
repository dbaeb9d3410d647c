use Rattle.segment_salvage.proofs.BufferCells.{unread_is_lost}
use Rattle.segment_salvage.proofs.laws.unread_is_lost.Goals as goal

pub returns : goal.returns
returns c = unread_is_lost
