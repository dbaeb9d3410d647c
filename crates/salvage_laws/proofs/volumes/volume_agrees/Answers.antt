use Rattle.salvage_laws.proofs.VolumeTold.{volume_agrees, standing_volume_agrees}
use Rattle.salvage_laws.proofs.volumes.volume_agrees.Goals as goal

pub returns : goal.returns
returns c = record { mounted = volume_agrees; standing = standing_volume_agrees }
