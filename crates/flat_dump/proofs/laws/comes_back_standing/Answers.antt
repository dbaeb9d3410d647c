use Rattle.flat_dump.proofs.Standing.{stands_again}
use Rattle.flat_dump.proofs.laws.comes_back_standing.Goals as goal

pub returns : goal.returns
returns c = stands_again
