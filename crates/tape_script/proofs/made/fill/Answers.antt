use Rattle.std.proofs.Common.{◌≡◌, ◌+◌, ◌%◌, ◌++◌, ◌∷◌, [], ◌<◌, ℕ, length, take, refl, ap, ◌∙◌, sym, arith}
use Rattle.std.proofs.lemmas.List.{take_more_set, take_all}
use Rattle.command_laws.specs.TextGenerator.{made_from}
use Rattle.tape_script.proofs.Making.{made_from_more}
use Rattle.tape_script.proofs.made.fill.Goals as goal
use Rattle.tape_script.proofs.made.fill.Goals.{then-next, else-next}

pub loop-byte-init : goal.loop-byte-init
unfolding made_from
loop-byte-init c = record { next = omega arith; filled = refl }

pub loop-byte-preserved : goal.loop-byte-preserved
loop-byte-preserved c =
    let here : c.loop-byte.byte-index < length c.loop-byte.byte-items = let l = c.loop-byte.auto.byte-items in omega arith in
    let before = c.loop-byte.invariant.next in
    record {
      next = elim c.if-next.branch [ then-next w ↦ omega arith | else-next w ↦ omega arith ];
      filled = take_more_set c.loop-byte.byte-items c.loop-byte.byte-index c.loop-byte.next here
          ∙ ap (λ (b : ℕ). take c.loop-byte.byte-index c.loop-byte.byte-items ++ b ∷ []) before
          ∙ ap (λ xs. xs ++ (c.args.first + c.loop-byte.byte-index) % 251 ∷ []) c.loop-byte.invariant.filled
          ∙ sym (made_from_more c.args.first c.loop-byte.byte-index);
    }

pub returns-clause-filled : goal.returns-clause-filled
returns-clause-filled c =
    let l = c.loop-byte.auto.byte-items in
    let e : c.loop-byte.byte-index ≡ length c.args.into.now = omega arith in
    sym (take_all c.loop-byte.byte-index c.loop-byte.byte-items (omega arith)) ∙ c.loop-byte.invariant.filled
    ∙ ap (λ (n : ℕ). made_from c.args.first n) e

pub overflow_add-next : goal.overflow_add-next
overflow_add-next c = let before = c.loop-byte.invariant.next in omega arith
