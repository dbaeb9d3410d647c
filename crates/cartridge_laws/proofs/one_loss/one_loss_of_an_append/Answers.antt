use Rattle.cartridge_laws.proofs.OneLossAppend.{stopped_append_reads_either}
use Rattle.cartridge_laws.proofs.one_loss.one_loss_of_an_append.Goals as goal

pub returns : goal.returns
returns c = stopped_append_reads_either
