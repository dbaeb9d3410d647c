use Rattle.cartridge_laws.proofs.WrongTable.{between_has_wrong, stopped_append_has_wrong, no_stop_leaves_wrong}
use Rattle.cartridge_laws.proofs.wrong_table.a_wrong_sector_of_the_table.Goals as goal

pub returns-clause-between : goal.returns-clause-between
returns-clause-between c = between_has_wrong

pub returns-clause-stopped : goal.returns-clause-stopped
returns-clause-stopped c = stopped_append_has_wrong

pub returns-clause-no_stop : goal.returns-clause-no_stop
returns-clause-no_stop c = no_stop_leaves_wrong
