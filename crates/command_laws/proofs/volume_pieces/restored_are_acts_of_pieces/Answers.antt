use Rattle.command_laws.proofs.OutputActsOfPieces.{restored_are_of}
use Rattle.command_laws.proofs.volume_pieces.restored_are_acts_of_pieces.Goals as goal

pub returns : goal.returns
returns c = restored_are_of
