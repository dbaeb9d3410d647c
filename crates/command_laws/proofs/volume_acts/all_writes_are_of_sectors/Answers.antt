use Rattle.command_laws.proofs.InputActLaws.{volume_is_of_sectors, filled_is_of_sectors, input_is_of_sectors}
use Rattle.command_laws.proofs.volume_acts.all_writes_are_of_sectors.Goals as goal

pub returns-clause-volume : goal.returns-clause-volume
returns-clause-volume c = volume_is_of_sectors

pub returns-clause-filled : goal.returns-clause-filled
returns-clause-filled c = filled_is_of_sectors

pub returns-clause-input : goal.returns-clause-input
returns-clause-input c = input_is_of_sectors
