use Rattle.command_laws.proofs.CommandTable as plain
use Rattle.command_laws.proofs.commands.a_command_has_one_outcome.Goals as goal

pub returns : goal.returns
returns c = plain.plain_is_function
