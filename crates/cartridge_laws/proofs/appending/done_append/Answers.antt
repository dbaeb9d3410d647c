use Rattle.cartridge_laws.proofs.AppendDone.{appended_is_whole}
use Rattle.cartridge_laws.proofs.AppendReady.{appended_is_ready}
use Rattle.cartridge_laws.proofs.appending.done_append.Goals as goal

pub returns-clause-table : goal.returns-clause-table
returns-clause-table c = appended_is_whole

pub returns-clause-ready : goal.returns-clause-ready
returns-clause-ready c = appended_is_ready
