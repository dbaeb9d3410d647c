use Rattle.command_laws.proofs.RestoreStanding.{few_or_first_lost, restores_front, never_mismatch}
use Rattle.command_laws.proofs.restoring.lost_volume.Goals as goal

pub returns-clause-first : goal.returns-clause-first
returns-clause-first c = few_or_first_lost

pub returns-clause-front : goal.returns-clause-front
returns-clause-front c = restores_front

pub returns-clause-mismatch : goal.returns-clause-mismatch
returns-clause-mismatch c = never_mismatch
