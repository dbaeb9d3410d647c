use Rattle.cartridge_laws.proofs.TableSayings.{read_are_sectors}
use Rattle.cartridge_laws.proofs.saying.read_are_sectors.Goals as goal

pub returns : goal.returns
returns c = read_are_sectors
