use Rattle.command_laws.proofs.MadeOutcomes.{makes_something}
use Rattle.command_laws.proofs.generated.a_run_has_an_outcome.Goals as goal

pub returns : goal.returns
returns c = makes_something
