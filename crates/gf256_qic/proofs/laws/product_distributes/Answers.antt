use Rattle.gf256_qic.proofs.Products.{product_sum_right}
use Rattle.gf256_qic.proofs.laws.product_distributes.Goals as goal

pub returns : goal.returns
returns c = product_sum_right
