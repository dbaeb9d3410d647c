use Rattle.cartridge_laws.proofs.OneLossRead.{before_reads_old_still}
use Rattle.cartridge_laws.proofs.one_loss.one_loss_before_the_turn.Goals as goal

pub returns : goal.returns
returns c = before_reads_old_still
