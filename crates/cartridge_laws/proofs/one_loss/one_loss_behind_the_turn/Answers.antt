use Rattle.cartridge_laws.proofs.OneLossRead.{lost_parity_reads_new, lost_data_reads_old, lost_data_reads_new}
use Rattle.cartridge_laws.proofs.one_loss.one_loss_behind_the_turn.Goals as goal

pub returns-clause-parity : goal.returns-clause-parity
returns-clause-parity c = lost_parity_reads_new

pub returns-clause-old : goal.returns-clause-old
returns-clause-old c = lost_data_reads_old

pub returns-clause-new : goal.returns-clause-new
returns-clause-new c = lost_data_reads_new
