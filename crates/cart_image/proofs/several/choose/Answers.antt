use Rattle.std.proofs.Common.{◌≢◌, Bool, false, sym, ◌∙◌, subst, arith, below_more, get_or-set_other}
use Rattle.std.proofs.Common.{get_or-set_same}
use Rattle.std.proofs.lemmas.List.{length-set}
use Rattle.qic_base.specs.TapeCalls.{is_readable, is_blank}
use Rattle.cart_image.specs.Several.{takes_write}
use Rattle.cart_image.proofs.Choices.{IsChoice, choice-is}
use Rattle.cart_image.proofs.several.choose.Goals as goal

pub loop-i-preserved : goal.loop-i-preserved
loop-i-preserved c =
    let i = c.loop-i.i in
    let inv = c.loop-i.invariant in
    record {
      long_readable = length-set _ _ _ ∙ inv.long_readable;
      long_taking = length-set _ _ _ ∙ inv.long_taking;
      readable = below_more _ _
          (λ k h. let P : Bool → Type 0 = λ b. IsChoice is_readable c.args.written c.args.states.now k b in
          let ne : k ≢ c.loop-i.i = omega arith in
          subst P (sym (get_or-set_other c.loop-i.readable c.loop-i.i k c.closes.result false ne)) (inv.readable k h))
          (let P : Bool → Type 0 = λ b. IsChoice is_readable c.args.written c.args.states.now c.loop-i.i b in
          subst P (sym (get_or-set_same c.loop-i.readable c.loop-i.i c.closes.result false (omega (arith, inv.long_readable))))
          (choice-is is_readable c.args.written c.args.states.now c.loop-i.i c.is_in-is_written.result c.closes.result
          c.is_in-is_written.ensures c.closes.ensures));
      taking = below_more _ _
          (λ k h. let P : Bool → Type 0 = λ b. IsChoice takes_write c.args.written c.args.states.now k b in
          let ne : k ≢ c.loop-i.i = omega arith in
          subst P (sym (get_or-set_other c.loop-i.taking c.loop-i.i k c.takes.result false ne)) (inv.taking k h))
          (let P : Bool → Type 0 = λ b. IsChoice takes_write c.args.written c.args.states.now c.loop-i.i b in
          subst P (sym (get_or-set_same c.loop-i.taking c.loop-i.i c.takes.result false (omega (arith, inv.long_taking))))
          (choice-is takes_write c.args.written c.args.states.now c.loop-i.i c.is_in-is_written.result c.takes.result
          c.is_in-is_written.ensures c.takes.ensures));
      blank = below_more _ _
          (λ k h. let P : Bool → Type 0 = λ b. IsChoice is_blank c.args.written c.args.states.now k b in
          let ne : k ≢ c.loop-i.i = omega arith in
          subst P (sym (c.with_sector-blank.ensures.others k ne)) (inv.blank k h))
          (let P : Bool → Type 0 = λ b. IsChoice is_blank c.args.written c.args.states.now c.loop-i.i b in
          subst P (sym c.with_sector-blank.ensures.same)
          (choice-is is_blank c.args.written c.args.states.now c.loop-i.i c.is_in-is_written.result c.refuses.result
          c.is_in-is_written.ensures c.refuses.ensures));
      rest = λ k past.
          let ne : k ≢ c.loop-i.i = omega arith in
          c.with_sector-blank.ensures.others k ne ∙ inv.rest k (omega arith);
    }
