use Rattle.gf256_qic.proofs.Exponents.{powers_at}
use Rattle.gf256_qic.proofs.logarithms.exponential.Goals as goal

pub returns : goal.returns
returns c = powers_at c.args.n
