use Rattle.command_laws.proofs.OutputActsOfPieces.{printed_in_no_step, text_of_first}
use Rattle.command_laws.proofs.volume_pieces.acts_of_pieces.Goals as goal

pub returns-clause-steps : goal.returns-clause-steps
returns-clause-steps c = printed_in_no_step

pub returns-clause-text : goal.returns-clause-text
returns-clause-text c = text_of_first
