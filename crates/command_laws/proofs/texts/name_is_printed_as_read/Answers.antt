use Rattle.command_laws.proofs.TextPrinting.{name_is_printed_as_read}
use Rattle.command_laws.proofs.texts.name_is_printed_as_read.Goals as goal

pub returns : goal.returns
returns c = name_is_printed_as_read
