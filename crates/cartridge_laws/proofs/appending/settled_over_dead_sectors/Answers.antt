use Rattle.cartridge_laws.proofs.AppendDead.{settled_is_settled_for}
use Rattle.cartridge_laws.proofs.AppendReady.{settled_may_append_to, ready_is_settled_for}
use Rattle.cartridge_laws.proofs.appending.settled_over_dead_sectors.Goals as goal

pub returns-clause-settled : goal.returns-clause-settled
returns-clause-settled c = settled_is_settled_for

pub returns-clause-may : goal.returns-clause-may
returns-clause-may c = settled_may_append_to

pub returns-clause-ready : goal.returns-clause-ready
returns-clause-ready c = ready_is_settled_for
