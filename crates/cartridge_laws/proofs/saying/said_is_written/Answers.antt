use Rattle.cartridge_laws.proofs.Sayings.{said_is_written, said_are_sectors}
use Rattle.cartridge_laws.proofs.saying.said_is_written.Goals as goal

pub returns-clause-cells : goal.returns-clause-cells
returns-clause-cells c = said_is_written

pub returns-clause-sectors : goal.returns-clause-sectors
returns-clause-sectors c = said_are_sectors
