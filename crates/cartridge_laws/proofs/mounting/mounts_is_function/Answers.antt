use Rattle.cartridge_laws.proofs.MountOnce.{mounts_is_function}
use Rattle.cartridge_laws.proofs.mounting.mounts_is_function.Goals as goal

pub returns : goal.returns
returns c = mounts_is_function
