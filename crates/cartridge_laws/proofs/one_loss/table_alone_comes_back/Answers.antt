use Rattle.cartridge_laws.proofs.OneLossComesBack.{table_alone_comes_back, settled_comes_back, table_alone_is_clean}
use Rattle.cartridge_laws.proofs.one_loss.table_alone_comes_back.Goals as goal

pub returns-clause-back : goal.returns-clause-back
returns-clause-back c = table_alone_comes_back

pub returns-clause-settled : goal.returns-clause-settled
returns-clause-settled c = settled_comes_back

pub returns-clause-clean : goal.returns-clause-clean
returns-clause-clean c = table_alone_is_clean
