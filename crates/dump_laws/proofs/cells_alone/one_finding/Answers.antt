use Rattle.dump_laws.proofs.Determined.{one_finding}
use Rattle.dump_laws.proofs.cells_alone.one_finding.Goals as goal

pub returns : goal.returns
returns c = one_finding
