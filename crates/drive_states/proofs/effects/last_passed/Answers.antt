use Rattle.std.proofs.Common.{◌≡◌, ℕ, ◌<◌, Option, IfSome, refl, sym, ◌∙◌, arith, subst}
use Rattle.drive_states.specs.Reach.{last_passed}
use Rattle.drive_states.proofs.Passing.{last_is_here, last_is_not_asked, last_is_not_blank, last_is_below}
use Rattle.drive_states.proofs.effects.last_passed.Goals as goal
use Rattle.drive_states.proofs.effects.last_passed.Goals.{then-contains+then-not-contains, else-contains}
use Rattle.drive_states.proofs.effects.last_passed.Goals.{else-contains-via-then-contains+else-not-contains}
use Rattle.drive_states.proofs.effects.last_passed.Goals.{else-contains-via-else-contains}

pub loop-index-init : goal.loop-index-init
unfolding last_passed
loop-index-init c = refl

pub loop-index-preserved : goal.loop-index-preserved
loop-index-preserved c =
    elim c.if-contains.branch [
      | then-contains+then-not-contains w ↦
          w.last-is ∙ sym (last_is_here c.args.asked c.args.blank c.loop-index.index (w.if-contains.ensures.lost.0 refl)
          (λ none. let no = w.if-not-contains.ensures.lost.1 none in cc))
      | else-contains w ↦
          elim w.else-contains.branch [
            | else-contains-via-then-contains+else-not-contains v ↦
                w.last-is ∙ c.loop-index.invariant
                ∙ sym (last_is_not_blank c.args.asked c.args.blank c.loop-index.index (v.if-not-contains.ensures.lost.0 refl))
            | else-contains-via-else-contains v ↦
                w.last-is ∙ c.loop-index.invariant
                ∙ sym (last_is_not_asked c.args.asked c.args.blank c.loop-index.index
                (λ one. let no = v.if-contains.ensures.lost.1 one in cc))
          ]
    ]

pub returns-clause-within : goal.returns-clause-within
returns-clause-within c =
    let end : c.loop-index.index ≡ 32 = omega (arith, c.loop-index.auto.index-end) in
    subst (λ (last : Option ℕ). IfSome last (λ index. index < 32)) (sym c.loop-index.invariant)
    (subst (λ (n : ℕ). IfSome (last_passed c.args.asked c.args.blank n) (λ index. index < 32)) (sym end)
    (last_is_below c.args.asked c.args.blank 32))
