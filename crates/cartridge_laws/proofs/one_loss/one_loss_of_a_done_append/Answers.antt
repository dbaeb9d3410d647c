use Rattle.cartridge_laws.proofs.OneLossComesBack.{done_append_reads_new}
use Rattle.cartridge_laws.proofs.one_loss.one_loss_of_a_done_append.Goals as goal

pub returns : goal.returns
returns c = done_append_reads_new
