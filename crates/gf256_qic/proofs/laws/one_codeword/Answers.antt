use Rattle.gf256_qic.proofs.Agreement.{one_codeword}
use Rattle.gf256_qic.proofs.laws.one_codeword.Goals as goal

pub returns : goal.returns
returns c = one_codeword
