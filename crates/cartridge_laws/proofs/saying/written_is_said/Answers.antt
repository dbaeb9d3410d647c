use Rattle.cartridge_laws.proofs.Sayings.{written_is_said, written_is_lost}
use Rattle.cartridge_laws.proofs.saying.written_is_said.Goals as goal

pub returns-clause-data_sectors : goal.returns-clause-data_sectors
returns-clause-data_sectors c = written_is_said

pub returns-clause-lost : goal.returns-clause-lost
returns-clause-lost c = written_is_lost
