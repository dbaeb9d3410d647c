use Rattle.command_laws.proofs.RestoreEndings.{restores_always}
use Rattle.command_laws.proofs.restoring.restores_always.Goals as goal

pub returns : goal.returns
returns c = restores_always
