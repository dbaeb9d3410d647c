use Rattle.cartridge_laws.proofs.TableLists as laws
use Rattle.cartridge_laws.proofs.tables.volumes_are_determined.Goals as goal

pub returns : goal.returns
returns c = laws.volumes_are_determined
