use Rattle.std.proofs.Common.{inl, inr, arith}
use Rattle.std.proofs.lemmas.List.{length-set}
use Rattle.rescue_map.proofs.Masking.{word_next, words_over}
use Rattle.rescue_map.proofs.mask.mark.Goals as goal

pub loop-index-preserved : goal.loop-index-preserved
loop-index-preserved c = λ q within.
    word_next c.args.mask.now c.loop-index.mask c.args.first c.args.end c.loop-index.index c.mark_word.result c.if-index-mask.false
    (rw (c.bits_before.ensures.bits, c.bits_before-in-loop-index.ensures.bits) at c.mark_word.ensures) q
    (c.loop-index.invariant q (rw length-set at within))

pub returns : goal.returns
returns c = λ q within.
    words_over c.args.mask.now c.loop-index.mask c.args.first c.args.end c.loop-index.index q (inl (omega arith))
    (c.loop-index.invariant q (omega arith))

pub returns-then-index-mask : goal.returns-then-index-mask
returns-then-index-mask c = λ q within.
    words_over c.args.mask.now c.loop-index.mask c.args.first c.args.end c.loop-index.index q (inr (omega arith))
    (c.loop-index.invariant q (omega arith))
