use Rattle.cartridge_laws.proofs.AppendReady.{settled_is_ready}
use Rattle.cartridge_laws.proofs.appending.settled_is_ready.Goals as goal

pub returns : goal.returns
returns c = settled_is_ready
