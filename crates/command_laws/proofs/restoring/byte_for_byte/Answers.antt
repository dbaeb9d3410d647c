use Rattle.command_laws.proofs.RestoreStanding.{volume_is_long, restores_byte_for_byte, standing_restores}
use Rattle.command_laws.proofs.restoring.byte_for_byte.Goals as goal

pub returns-clause-size : goal.returns-clause-size
returns-clause-size c = volume_is_long

pub returns-clause-bytes : goal.returns-clause-bytes
returns-clause-bytes c = restores_byte_for_byte

pub returns-clause-gives : goal.returns-clause-gives
returns-clause-gives c = standing_restores
