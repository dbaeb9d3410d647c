use Rattle.command_laws.proofs.PulseMachineLaws.{each_outcome}
use Rattle.command_laws.proofs.trains.each_input_has_an_outcome.Goals as goal

pub returns : goal.returns
returns c = each_outcome
