use Rattle.command_laws.proofs.MountedListing.{append_front_lists, append_lists, settled_lists}
use Rattle.command_laws.proofs.mounted.an_append_leaves_what_is_mounted.Goals as goal

pub returns-clause-settled : goal.returns-clause-settled
returns-clause-settled c = settled_lists

pub returns-clause-appends : goal.returns-clause-appends
returns-clause-appends c = append_lists

pub returns-clause-fronts : goal.returns-clause-fronts
returns-clause-fronts c = append_front_lists
