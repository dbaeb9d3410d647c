use Rattle.command_laws.proofs.TextPrinting.{date_is_printed_as_read}
use Rattle.command_laws.proofs.texts.date_is_printed_as_read.Goals as goal

pub returns : goal.returns
returns c = date_is_printed_as_read
