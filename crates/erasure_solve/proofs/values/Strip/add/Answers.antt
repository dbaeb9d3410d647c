use Rattle.std.proofs.Common.{arith}
use Rattle.erasure_solve.proofs.values.Strip.add.Goals as goal

pub returns : goal.returns
returns c = record {
  reversed = λ j h. c.loop-j.invariant.reversed j (omega arith);
  at_one = λ j h. c.loop-j.invariant.at_one j (omega arith);
  at_generator = λ j h. c.loop-j.invariant.at_generator j (omega arith);
}
