use Rattle.salvage_laws.proofs.VolumeTold.{volume_comes_whole, standing_volume_comes_whole}
use Rattle.salvage_laws.proofs.volumes.volume_comes_whole.Goals as goal

pub returns : goal.returns
returns c = record { mounted = volume_comes_whole; standing = standing_volume_comes_whole }
