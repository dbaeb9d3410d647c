use Rattle.command_laws.proofs.MountedKeeping.{scrubbed_kept, worn_kept}
use Rattle.command_laws.proofs.mounted.wears_and_scrubs_keep_what_stands.Goals as goal

pub returns-clause-wears : goal.returns-clause-wears
returns-clause-wears c = worn_kept

pub returns-clause-scrubs : goal.returns-clause-scrubs
returns-clause-scrubs c = scrubbed_kept
