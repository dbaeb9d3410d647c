use Rattle.command_laws.proofs.InputActLaws.{volume_is_free, filled_is_free, input_is_free}
use Rattle.command_laws.proofs.volume_acts.all_writes_are_free.Goals as goal

pub returns-clause-volume : goal.returns-clause-volume
returns-clause-volume c = volume_is_free

pub returns-clause-filled : goal.returns-clause-filled
returns-clause-filled c = filled_is_free

pub returns-clause-input : goal.returns-clause-input
returns-clause-input c = input_is_free
