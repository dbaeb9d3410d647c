use Rattle.command_laws.proofs.InputActLaws.{volume_is_writes}
use Rattle.command_laws.proofs.volume_acts.a_volume_is_its_writes.Goals as goal

pub returns : goal.returns
returns c = volume_is_writes
