use Rattle.flat_dump.proofs.Bytes.{dump_is_whole}
use Rattle.flat_dump.proofs.laws.dumps_are_whole.Goals as goal

pub returns : goal.returns
returns c = dump_is_whole
