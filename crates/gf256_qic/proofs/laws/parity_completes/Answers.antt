use Rattle.gf256_qic.proofs.Parities.{parity_codeword, parity_only}
use Rattle.gf256_qic.proofs.laws.parity_completes.Goals as goal

pub returns-clause-codeword : goal.returns-clause-codeword
returns-clause-codeword c = parity_codeword

pub returns-clause-only : goal.returns-clause-only
returns-clause-only c = parity_only
