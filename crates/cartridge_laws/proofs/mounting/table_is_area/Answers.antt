use Rattle.cartridge_laws.proofs.MountWhole.{table_is_area}
use Rattle.cartridge_laws.proofs.mounting.table_is_area.Goals as goal

pub returns : goal.returns
returns c = table_is_area
