use Rattle.command_laws.proofs.RestorePieces.{restores_one_by_one, one_by_one_restores}
use Rattle.command_laws.proofs.restoring.piece_by_piece.Goals as goal

pub returns-clause-apart : goal.returns-clause-apart
returns-clause-apart c = restores_one_by_one

pub returns-clause-joined : goal.returns-clause-joined
returns-clause-joined c = one_by_one_restores
