use Rattle.std.proofs.Common.{arith}
use Rattle.rescue_map.proofs.Masking.{bit_next, bits_over, full_word}
use Rattle.rescue_map.proofs.mask.mark_word.Goals as goal

pub loop-bit-preserved : goal.loop-bit-preserved
loop-bit-preserved c = record {
  marked = λ b small.
      bit_next c.args.word c.loop-bit.marked c.args.from c.loop-bit.bit b (omega arith) (omega arith) small
      (c.loop-bit.invariant.marked b small);
  within = omega arith;
}

pub returns-then-word-eq4294967295 : goal.returns-then-word-eq4294967295
returns-then-word-eq4294967295 c = λ b small. full_word c.args.word c.args.from c.args.to b c.if-word-eq4294967295.true small

pub returns : goal.returns
returns c = λ b small.
    bits_over c.args.word c.loop-bit.marked c.args.from c.args.to c.loop-bit.bit b c.loop-bit.invariant.within (omega arith)
    (c.loop-bit.invariant.marked b small)
