use Rattle.command_laws.proofs.MadeStops.{makes_one_thing}
use Rattle.command_laws.proofs.generated.a_run_is_one.Goals as goal

pub returns : goal.returns
returns c = makes_one_thing
