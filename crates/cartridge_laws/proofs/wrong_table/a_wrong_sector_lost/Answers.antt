use Rattle.cartridge_laws.proofs.WrongTableLost.{lost_wrong_is_solved, lost_wrong_mounts}
use Rattle.cartridge_laws.proofs.wrong_table.a_wrong_sector_lost.Goals as goal

pub returns-clause-solved : goal.returns-clause-solved
returns-clause-solved c = lost_wrong_is_solved

pub returns-clause-mounts : goal.returns-clause-mounts
returns-clause-mounts c = lost_wrong_mounts
