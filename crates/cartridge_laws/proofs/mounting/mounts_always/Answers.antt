use Rattle.cartridge_laws.proofs.MountOnce.{mounts_always}
use Rattle.cartridge_laws.proofs.mounting.mounts_always.Goals as goal

pub returns : goal.returns
returns c = mounts_always
