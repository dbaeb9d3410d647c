use Rattle.command_laws.proofs.RestoreEndings.{restores_is_function}
use Rattle.command_laws.proofs.restoring.restores_is_function.Goals as goal

pub returns : goal.returns
returns c = restores_is_function
