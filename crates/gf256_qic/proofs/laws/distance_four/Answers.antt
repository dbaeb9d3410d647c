use Rattle.gf256_qic.proofs.Agreement.{four_apart}
use Rattle.gf256_qic.proofs.laws.distance_four.Goals as goal

pub returns : goal.returns
returns c = four_apart
