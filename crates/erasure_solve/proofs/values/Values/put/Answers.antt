use Rattle.std.proofs.Common.{arith}
use Rattle.erasure_solve.proofs.values.Values.put.Goals as goal

pub returns : goal.returns
returns c = record {
  scale = c.loop-j.invariant.scale;
  reversed = record {
    part = λ j h. c.loop-j.invariant.reversed j (omega arith);
    before = c.loop-j.invariant.before_reversed;
  };
  at_one = record {
    part = λ j h. c.loop-j.invariant.at_one j (omega arith);
    before = c.loop-j.invariant.before_one;
  };
  at_generator = record {
    part = λ j h. c.loop-j.invariant.at_generator j (omega arith);
    before = c.loop-j.invariant.before_generator;
  };
}
