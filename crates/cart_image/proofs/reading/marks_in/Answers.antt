use Rattle.std.proofs.Common.{◌≢◌, ◌<◌, length, ◌∙◌, arith, refl, below_more, get_or-set_other, get_or-set_same}
use Rattle.std.proofs.lemmas.List.{length-set}
use Rattle.cart_image.proofs.reading.marks_in.Goals as goal

pub loop-i-preserved : goal.loop-i-preserved
loop-i-preserved c = record {
  long_gates = length-set _ _ _ ∙ c.loop-i.invariant.long_gates;
  long_formed = length-set _ _ _ ∙ c.loop-i.invariant.long_formed;
  long_defects = length-set _ _ _ ∙ c.loop-i.invariant.long_defects;
  gates = below_more _ _
      (λ k h. let ne : k ≢ c.loop-i.i = omega arith in rw get_or-set_other (c.loop-i.invariant.gates k h))
      (let lt : c.loop-i.i < length c.loop-i.gates = omega (arith, c.loop-i.invariant.long_gates) in rw get_or-set_same refl);
  formed = below_more _ _
      (λ k h. let ne : k ≢ c.loop-i.i = omega arith in rw get_or-set_other (c.loop-i.invariant.formed k h))
      (let lt : c.loop-i.i < length c.loop-i.formed = omega (arith, c.loop-i.invariant.long_formed) in rw get_or-set_same refl);
  defects = below_more _ _
      (λ k h. let ne : k ≢ c.loop-i.i = omega arith in rw get_or-set_other (c.loop-i.invariant.defects k h))
      (let lt : c.loop-i.i < length c.loop-i.defects = omega (arith, c.loop-i.invariant.long_defects) in rw get_or-set_same refl);
}

pub returns-clause-gates : goal.returns-clause-gates
returns-clause-gates c = λ i less. c.loop-i.invariant.gates i (omega arith)

pub returns-clause-formed : goal.returns-clause-formed
returns-clause-formed c = λ i less. c.loop-i.invariant.formed i (omega arith)

pub returns-clause-defects : goal.returns-clause-defects
returns-clause-defects c = λ i less. c.loop-i.invariant.defects i (omega arith)
