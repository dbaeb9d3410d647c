use Rattle.gf256_qic.proofs.Powers.{product_inverse}
use Rattle.gf256_qic.proofs.laws.inverse_undoes.Goals as goal

pub returns : goal.returns
returns c = product_inverse
