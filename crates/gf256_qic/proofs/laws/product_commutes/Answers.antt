use Rattle.gf256_qic.proofs.Products.{product_comm}
use Rattle.gf256_qic.proofs.laws.product_commutes.Goals as goal

pub returns : goal.returns
returns c = product_comm
