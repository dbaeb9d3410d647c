use Rattle.cartridge_laws.proofs.FormatStops.{stopped_clearing, stopped_clearing_new}
use Rattle.cartridge_laws.proofs.formatting.stopped_clearing.Goals as goal

pub returns-clause-standing : goal.returns-clause-standing
returns-clause-standing c = stopped_clearing

pub returns-clause-new : goal.returns-clause-new
returns-clause-new c = stopped_clearing_new
