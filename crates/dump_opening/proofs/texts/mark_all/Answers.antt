use Rattle.std.proofs.Common.{arith}
use Rattle.dump_opening.proofs.Rescuing.{all_marked}
use Rattle.dump_opening.proofs.texts.mark_all.Goals as goal

pub returns : goal.returns
returns c = all_marked c.loop-word.set (λ k here. c.loop-word.invariant k (omega arith))
