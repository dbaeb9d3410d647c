use Rattle.command_laws.proofs.MadeStops.{stops_are_in_steps}
use Rattle.command_laws.proofs.generated.a_stop_is_in_one_step.Goals as goal

pub returns : goal.returns
returns c = stops_are_in_steps
