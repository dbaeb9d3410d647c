use Rattle.cartridge_laws.proofs.OneLossComesBack.{stopped_append_comes_back, done_append_comes_back}
use Rattle.cartridge_laws.proofs.one_loss.one_loss_of_an_append_comes_back.Goals as goal

pub returns-clause-stopped : goal.returns-clause-stopped
returns-clause-stopped c = stopped_append_comes_back

pub returns-clause-done : goal.returns-clause-done
returns-clause-done c = done_append_comes_back
