use Rattle.command_laws.proofs.RestoreCounts.{pieces_hold_all, text_holds_pieces, restored_is_long}
use Rattle.command_laws.proofs.restoring.restored_length.Goals as goal

pub returns-clause-pieces : goal.returns-clause-pieces
returns-clause-pieces c = pieces_hold_all

pub returns-clause-text : goal.returns-clause-text
returns-clause-text c = text_holds_pieces

pub returns-clause-whole : goal.returns-clause-whole
returns-clause-whole c = restored_is_long
