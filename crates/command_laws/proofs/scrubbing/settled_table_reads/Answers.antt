use Rattle.command_laws.proofs.ScrubSettled.{settled_table_reads}
use Rattle.command_laws.proofs.scrubbing.settled_table_reads.Goals as goal

pub returns : goal.returns
returns c = settled_table_reads
