use Rattle.command_laws.proofs.PulseMachineLaws.{one_outcome}
use Rattle.command_laws.proofs.trains.an_input_has_one_outcome.Goals as goal

pub returns : goal.returns
returns c = one_outcome
