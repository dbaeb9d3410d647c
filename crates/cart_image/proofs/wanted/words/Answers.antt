use Rattle.std.proofs.Common.{◌≢◌, Bool, sym, ◌∙◌, subst, arith, below_more}
use Rattle.qic_base.specs.TapeCalls.{is_readable, is_blank}
use Rattle.cart_image.proofs.Choices.{IsChoice, choice-is}
use Rattle.cart_image.proofs.wanted.words.Goals as goal

pub loop-i-preserved : goal.loop-i-preserved
loop-i-preserved c =
    let inv = c.loop-i.invariant in
    record {
      good = below_more _ _
          (λ k h. let P : Bool → Type 0 = λ b. IsChoice is_readable c.args.wanted c.args.states.now k b in
          let ne : k ≢ c.loop-i.i = omega arith in
          subst P (sym (c.with_sector-good.ensures.others k ne)) (inv.good k h))
          (let P : Bool → Type 0 = λ b. IsChoice is_readable c.args.wanted c.args.states.now c.loop-i.i b in
          subst P (sym c.with_sector-good.ensures.same)
          (choice-is is_readable c.args.wanted c.args.states.now c.loop-i.i c.is_in-is_wanted.result c.closes.result
          c.is_in-is_wanted.ensures
          c.closes.ensures));
      good_later = λ k past.
          let ne : k ≢ c.loop-i.i = omega arith in
          c.with_sector-good.ensures.others k ne ∙ inv.good_later k (omega arith);
      blank = below_more _ _
          (λ k h. let P : Bool → Type 0 = λ b. IsChoice is_blank c.args.wanted c.args.states.now k b in
          let ne : k ≢ c.loop-i.i = omega arith in
          subst P (sym (c.with_sector-blank.ensures.others k ne)) (inv.blank k h))
          (let P : Bool → Type 0 = λ b. IsChoice is_blank c.args.wanted c.args.states.now c.loop-i.i b in
          subst P (sym c.with_sector-blank.ensures.same)
          (choice-is is_blank c.args.wanted c.args.states.now c.loop-i.i c.is_in-is_wanted.result c.refuses.result c.is_in-is_wanted.ensures
          c.refuses.ensures));
      blank_later = λ k past.
          let ne : k ≢ c.loop-i.i = omega arith in
          c.with_sector-blank.ensures.others k ne ∙ inv.blank_later k (omega arith);
    }
