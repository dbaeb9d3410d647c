use Rattle.gf256_qic.proofs.Parities.{parity_block, parity_block_only}
use Rattle.gf256_qic.proofs.laws.parity_sectors_complete.Goals as goal

pub returns-clause-block : goal.returns-clause-block
returns-clause-block c = parity_block

pub returns-clause-only : goal.returns-clause-only
returns-clause-only c = parity_block_only
