use Rattle.dump_laws.proofs.Determined.{one_giving}
use Rattle.dump_laws.proofs.cells_alone.one_giving.Goals as goal

pub returns : goal.returns
returns c = one_giving
