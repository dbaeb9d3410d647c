use Rattle.command_laws.proofs.RestoreCounts.{restores_in_no_step, framed_in_no_step}
use Rattle.command_laws.proofs.restoring.restores_in_no_step.Goals as goal

pub returns-clause-plain : goal.returns-clause-plain
returns-clause-plain c = restores_in_no_step

pub returns-clause-framed : goal.returns-clause-framed
returns-clause-framed c = framed_in_no_step
