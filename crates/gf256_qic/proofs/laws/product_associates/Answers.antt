use Rattle.gf256_qic.proofs.Products.{product_assoc}
use Rattle.gf256_qic.proofs.laws.product_associates.Goals as goal

pub returns : goal.returns
returns c = product_assoc
