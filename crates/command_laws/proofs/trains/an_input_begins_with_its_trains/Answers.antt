use Rattle.command_laws.proofs.PulseMachineLaws.{trains_are_lines}
use Rattle.command_laws.proofs.trains.an_input_begins_with_its_trains.Goals as goal

pub returns : goal.returns
returns c = trains_are_lines
