use Rattle.command_laws.proofs.IntactKeeping.{intact_comes_back, settled_is_intact}
use Rattle.command_laws.proofs.intact.an_intact_cartridge_comes_back.Goals as goal

pub returns-clause-settled : goal.returns-clause-settled
returns-clause-settled c = settled_is_intact

pub returns-clause-comes : goal.returns-clause-comes
returns-clause-comes c = intact_comes_back
