use Rattle.cartridge_laws.proofs.WrongTableLost.{rotten_is_wrong, rotten_comes_back}
use Rattle.cartridge_laws.proofs.wrong_table.a_rotten_sector_of_the_table.Goals as goal

pub returns-clause-wrong : goal.returns-clause-wrong
returns-clause-wrong c = rotten_is_wrong

pub returns-clause-back : goal.returns-clause-back
returns-clause-back c = rotten_comes_back
