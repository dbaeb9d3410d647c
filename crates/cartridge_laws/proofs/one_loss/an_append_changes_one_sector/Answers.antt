use Rattle.cartridge_laws.proofs.OneLossAppend.{append_changes_one_sector}
use Rattle.cartridge_laws.proofs.one_loss.an_append_changes_one_sector.Goals as goal

pub returns : goal.returns
returns c = append_changes_one_sector
