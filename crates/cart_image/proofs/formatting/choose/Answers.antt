use Rattle.std.proofs.Common.{◌≢◌, ◌<◌, length, ◌∙◌, arith, below_more, get_or-set_other, get_or-set_same}
use Rattle.std.proofs.lemmas.List.{length-set}
use Rattle.cart_image.proofs.formatting.choose.Goals as goal

pub loop-i-preserved : goal.loop-i-preserved
loop-i-preserved c = record {
  long_usable = length-set _ _ _ ∙ c.loop-i.invariant.long_usable;
  long_readable = length-set _ _ _ ∙ c.loop-i.invariant.long_readable;
  long_unformed = length-set _ _ _ ∙ c.loop-i.invariant.long_unformed;
  usable = below_more _ _
      (λ k h. let ne : k ≢ c.loop-i.i = omega arith in rw get_or-set_other (c.loop-i.invariant.usable k h))
      (let lt : c.loop-i.i < length c.loop-i.usable = omega (arith, c.loop-i.invariant.long_usable) in
      rw get_or-set_same c.is_usable.ensures);
  readable = below_more _ _
      (λ k h. let ne : k ≢ c.loop-i.i = omega arith in rw get_or-set_other (c.loop-i.invariant.readable k h))
      (let lt : c.loop-i.i < length c.loop-i.readable = omega (arith, c.loop-i.invariant.long_readable) in
      rw get_or-set_same c.is_readable.ensures);
  unformed = below_more _ _
      (λ k h. let ne : k ≢ c.loop-i.i = omega arith in rw get_or-set_other (c.loop-i.invariant.unformed k h))
      (let lt : c.loop-i.i < length c.loop-i.unformed = omega (arith, c.loop-i.invariant.long_unformed) in
      rw get_or-set_same c.is_unformed.ensures);
}

pub returns-clause-usable : goal.returns-clause-usable
returns-clause-usable c = λ i less. c.loop-i.invariant.usable i (omega arith)

pub returns-clause-readable : goal.returns-clause-readable
returns-clause-readable c = λ i less. c.loop-i.invariant.readable i (omega arith)

pub returns-clause-unformed : goal.returns-clause-unformed
returns-clause-unformed c = λ i less. c.loop-i.invariant.unformed i (omega arith)
