use Rattle.cartridge_laws.proofs.FormatStops.{stopped_format, stopped_format_new}
use Rattle.cartridge_laws.proofs.formatting.stopped_format.Goals as goal

pub returns-clause-standing : goal.returns-clause-standing
returns-clause-standing c = stopped_format

pub returns-clause-new : goal.returns-clause-new
returns-clause-new c = stopped_format_new
