use Rattle.dump_laws.proofs.Determined.{one_counting}
use Rattle.dump_laws.proofs.cells_alone.one_counting.Goals as goal

pub returns : goal.returns
returns c = one_counting
