use Rattle.gf256_qic.proofs.Distance.{order_of_two}
use Rattle.gf256_qic.proofs.laws.two_has_order_255.Goals as goal

pub returns : goal.returns
returns c = order_of_two
