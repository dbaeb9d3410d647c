use Rattle.std.proofs.Common.{◌≢◌, ◌<◌, length, ◌∙◌, arith, below_more, get_or-set_other, get_or-set_same}
use Rattle.std.proofs.lemmas.List.{length-set}
use Rattle.cart_image.proofs.reading.states_by.Goals as goal

pub loop-i-preserved : goal.loop-i-preserved
loop-i-preserved c = record {
  long = length-set _ _ _ ∙ c.loop-i.invariant.long;
  each = below_more _ _
      (λ k h. λ bytes. let ne : k ≢ c.loop-i.i = omega arith in rw get_or-set_other (c.loop-i.invariant.each k h bytes))
      (λ bytes. let lt : c.loop-i.i < length c.loop-i.states = omega (arith, c.loop-i.invariant.long) in
      rw get_or-set_same (c.state_by.ensures bytes));
}

pub returns : goal.returns
returns c = λ i bytes less. c.loop-i.invariant.each i (omega arith) bytes
