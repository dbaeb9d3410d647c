use Rattle.cartridge_laws.proofs.ChangeLive.{steps_keep_live}
use Rattle.cartridge_laws.proofs.changes.live_sectors.Goals as goal

pub returns : goal.returns
returns c = steps_keep_live
