use Rattle.cartridge_laws.proofs.OneLossParity.{parity_bytes_differ, parity_differs, near_block_is_tables}
use Rattle.cartridge_laws.proofs.one_loss.tables_are_far_apart.Goals as goal

pub returns-clause-bytes : goal.returns-clause-bytes
returns-clause-bytes c = parity_bytes_differ

pub returns-clause-parity : goal.returns-clause-parity
returns-clause-parity c = parity_differs

pub returns-clause-near : goal.returns-clause-near
returns-clause-near c = near_block_is_tables
