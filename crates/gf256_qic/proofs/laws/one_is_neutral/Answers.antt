use Rattle.gf256_qic.proofs.Products.{product_one_left}
use Rattle.gf256_qic.proofs.laws.one_is_neutral.Goals as goal

pub returns : goal.returns
returns c = product_one_left
