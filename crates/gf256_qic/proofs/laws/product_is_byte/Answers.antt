use Rattle.gf256_qic.proofs.Products.{product_byte}
use Rattle.gf256_qic.proofs.laws.product_is_byte.Goals as goal

pub returns : goal.returns
returns c = product_byte
