use Rattle.rescue_map.proofs.BackLaws.{reads_back}
use Rattle.rescue_map.proofs.laws.what_is_written_reads_back.Goals as goal

pub returns : goal.returns
returns c = reads_back
