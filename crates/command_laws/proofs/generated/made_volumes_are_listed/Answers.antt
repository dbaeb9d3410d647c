use Rattle.command_laws.proofs.MadeLeaving.{made_are_listed, make_lists}
use Rattle.command_laws.proofs.generated.made_volumes_are_listed.Goals as goal

pub returns-clause-lists : goal.returns-clause-lists
returns-clause-lists c = make_lists

pub returns-clause-all : goal.returns-clause-all
returns-clause-all c = made_are_listed
