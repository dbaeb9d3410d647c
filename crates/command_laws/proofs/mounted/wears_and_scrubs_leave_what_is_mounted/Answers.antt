use Rattle.command_laws.proofs.MountedListing.{scrub_lists, wear_lists}
use Rattle.command_laws.proofs.mounted.wears_and_scrubs_leave_what_is_mounted.Goals as goal

pub returns-clause-wears : goal.returns-clause-wears
returns-clause-wears c = wear_lists

pub returns-clause-scrubs : goal.returns-clause-scrubs
returns-clause-scrubs c = scrub_lists
