use Rattle.dump_laws.proofs.Determined.{one_case}
use Rattle.dump_laws.proofs.cells_alone.one_case.Goals as goal

pub returns : goal.returns
returns c = one_case
