use Rattle.command_laws.proofs.IntactKeeping.{appends_leave_intact, scrubs_leave_intact, wears_leave_intact}
use Rattle.command_laws.proofs.intact.appends_wears_and_scrubs_leave_it_intact.Goals as goal

pub returns-clause-appends : goal.returns-clause-appends
returns-clause-appends c = appends_leave_intact

pub returns-clause-wears : goal.returns-clause-wears
returns-clause-wears c = wears_leave_intact

pub returns-clause-scrubs : goal.returns-clause-scrubs
returns-clause-scrubs c = scrubs_leave_intact
