use Rattle.command_laws.proofs.TextWords.{one_command}
use Rattle.command_laws.proofs.texts.one_command.Goals as goal

pub returns : goal.returns
returns c = one_command
