use Rattle.cartridge_laws.proofs.AppendBetween.{before_reads_old, turned_reads_new}
use Rattle.cartridge_laws.proofs.appending.between_tables.Goals as goal

pub returns-clause-old : goal.returns-clause-old
returns-clause-old c = before_reads_old

pub returns-clause-new : goal.returns-clause-new
returns-clause-new c = turned_reads_new
