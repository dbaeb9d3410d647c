use Rattle.cartridge_laws.proofs.OneLossRead.{one_loss_reads_either}
use Rattle.cartridge_laws.proofs.one_loss.one_loss.Goals as goal

pub returns : goal.returns
returns c = one_loss_reads_either
