use Rattle.segment_parity.proofs.Rows.{register_block, register_only}
use Rattle.segment_parity.proofs.Parity.so_far.Goals as goal

pub returns-clause-codewords : goal.returns-clause-codewords
returns-clause-codewords c = λ ss holds. register_block c.args.self.now ss c.requires holds

pub returns-clause-only : goal.returns-clause-only
returns-clause-only c = λ ss ps holds three block. register_only c.args.self.now ss ps holds three block
