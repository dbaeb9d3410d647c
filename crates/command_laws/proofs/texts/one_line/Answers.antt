use Rattle.command_laws.proofs.TextLines.{one_line}
use Rattle.command_laws.proofs.texts.one_line.Goals as goal

pub returns : goal.returns
returns c = one_line
