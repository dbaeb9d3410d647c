use Rattle.command_laws.proofs.MountedSaying.{restores_anyway, scrubs_anyway}
use Rattle.command_laws.proofs.mounted.restores_and_scrubs_come_to_something.Goals as goal

pub returns-clause-restores : goal.returns-clause-restores
returns-clause-restores c = restores_anyway

pub returns-clause-scrubs : goal.returns-clause-scrubs
returns-clause-scrubs c = scrubs_anyway
