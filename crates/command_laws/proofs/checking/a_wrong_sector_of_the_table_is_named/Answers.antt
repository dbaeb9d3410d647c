use Rattle.command_laws.proofs.CheckTable.{lost_in_table_is_unsearched, named_in_table_is_wrong}
use Rattle.command_laws.proofs.CheckTable.{wrong_in_table_is_named, wrong_in_table_is_told}
use Rattle.command_laws.proofs.checking.a_wrong_sector_of_the_table_is_named.Goals as goal

pub returns-clause-named : goal.returns-clause-named
returns-clause-named c = wrong_in_table_is_named

pub returns-clause-told : goal.returns-clause-told
returns-clause-told c = wrong_in_table_is_told

pub returns-clause-wrong : goal.returns-clause-wrong
returns-clause-wrong c = named_in_table_is_wrong

pub returns-clause-unsearched : goal.returns-clause-unsearched
returns-clause-unsearched c = lost_in_table_is_unsearched
