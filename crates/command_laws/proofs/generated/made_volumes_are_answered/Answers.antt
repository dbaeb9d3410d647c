use Rattle.command_laws.proofs.MadeAnswered.{made_are_answered}
use Rattle.command_laws.proofs.generated.made_volumes_are_answered.Goals as goal

pub returns : goal.returns
returns c = made_are_answered
