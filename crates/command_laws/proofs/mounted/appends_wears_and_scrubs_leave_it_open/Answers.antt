use Rattle.command_laws.proofs.MountedKeeping.{scrubbed_open, worn_open}
use Rattle.command_laws.proofs.MountedStanding.{open_appended}
use Rattle.command_laws.proofs.mounted.appends_wears_and_scrubs_leave_it_open.Goals as goal

pub returns-clause-appends : goal.returns-clause-appends
returns-clause-appends c = open_appended

pub returns-clause-wears : goal.returns-clause-wears
returns-clause-wears c = worn_open

pub returns-clause-scrubs : goal.returns-clause-scrubs
returns-clause-scrubs c = scrubbed_open
