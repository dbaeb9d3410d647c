use Rattle.command_laws.proofs.PulseMachineLaws.{fronts_do_fronts}
use Rattle.command_laws.proofs.trains.a_front_of_the_trains_does_a_front.Goals as goal

pub returns : goal.returns
returns c = fronts_do_fronts
