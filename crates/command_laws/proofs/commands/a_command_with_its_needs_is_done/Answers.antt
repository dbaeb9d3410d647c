use Rattle.command_laws.proofs.CommandTable as complete
use Rattle.command_laws.proofs.commands.a_command_with_its_needs_is_done.Goals as goal

pub returns : goal.returns
returns c = complete.done_where_all_is_there
