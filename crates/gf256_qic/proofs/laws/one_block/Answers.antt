use Rattle.gf256_qic.proofs.Agreement.{one_block}
use Rattle.gf256_qic.proofs.laws.one_block.Goals as goal

pub returns : goal.returns
returns c = one_block
