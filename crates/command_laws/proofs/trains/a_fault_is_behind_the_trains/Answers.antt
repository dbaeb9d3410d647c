use Rattle.command_laws.proofs.PulseMachineLaws.{faults_are_behind}
use Rattle.command_laws.proofs.trains.a_fault_is_behind_the_trains.Goals as goal

pub returns : goal.returns
returns c = faults_are_behind
