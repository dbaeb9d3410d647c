use Rattle.command_laws.proofs.MountedListed.{append_listed, scrub_listed, wear_listed}
use Rattle.command_laws.proofs.mounted.appends_wears_and_scrubs_leave_a_list.Goals as goal

pub returns-clause-appends : goal.returns-clause-appends
returns-clause-appends c = append_listed

pub returns-clause-wears : goal.returns-clause-wears
returns-clause-wears c = wear_listed

pub returns-clause-scrubs : goal.returns-clause-scrubs
returns-clause-scrubs c = scrub_listed
