use Rattle.command_laws.proofs.InputActLaws.{volume_prints_nothing, filled_prints_nothing, input_prints_nothing}
use Rattle.command_laws.proofs.volume_acts.nothing_is_printed.Goals as goal

pub returns-clause-volume : goal.returns-clause-volume
returns-clause-volume c = volume_prints_nothing

pub returns-clause-filled : goal.returns-clause-filled
returns-clause-filled c = filled_prints_nothing

pub returns-clause-input : goal.returns-clause-input
returns-clause-input c = input_prints_nothing
