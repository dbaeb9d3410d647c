use Rattle.command_laws.proofs.CopyPrinted.{printed_copies_stand}
use Rattle.command_laws.proofs.copying.printed_copies_stand.Goals as goal

pub returns : goal.returns
returns c = printed_copies_stand
