use Rattle.command_laws.proofs.CommandLeft as left
use Rattle.command_laws.proofs.commands.what_is_left_is_whole.Goals as goal

pub returns : goal.returns
returns c = left.leaves_whole
