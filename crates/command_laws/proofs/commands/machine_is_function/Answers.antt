use Rattle.command_laws.proofs.CommandPromises as runs
use Rattle.command_laws.proofs.commands.machine_is_function.Goals as goal

pub returns : goal.returns
returns c = runs.machine_is_function
