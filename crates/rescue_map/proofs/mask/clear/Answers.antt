use Rattle.std.proofs.Common.{arith}
use Rattle.rescue_map.proofs.Masking.{none_marked}
use Rattle.rescue_map.proofs.mask.clear.Goals as goal

pub returns : goal.returns
returns c = none_marked c.loop-word.mask (λ k here. c.loop-word.invariant k (omega arith))
