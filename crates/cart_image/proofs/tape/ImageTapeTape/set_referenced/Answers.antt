use Rattle.std.proofs.Common.{[], ◌∷◌, refl, true, arith}
use Rattle.std.specs.Prelude.{slice_index}
use Rattle.qic_base.specs.Step.{SetReferenced}
use Rattle.cart_image.specs.Layout.{mark_steps, referenced_place}
use Rattle.cart_image.proofs.Tapes.{Tape-done, Tape-broke, mark-covers, referenced-outcome, referenced-plans, unknown-tape}
use Rattle.cart_image.proofs.Exits.{changes-stood}
use Rattle.cart_image.proofs.tape.ImageTapeTape.set_referenced.Goals as goal

pub set_mark-requires-clause-covers : goal.set_mark-requires-clause-covers
set_mark-requires-clause-covers g c = mark-covers c.args.self.now referenced_place (omega arith) c.requires

pub invariant_of-self : goal.invariant_of-self
invariant_of-self g c =
    let s = c.args.self.now in
    unknown-tape s _ c.set_mark.result s refl c.set_mark.ensures.seen c.set_mark.ensures.settled
    (λ bytes. mark_steps referenced_place true (slice_index bytes referenced_place)) (referenced-plans s) c.set_mark.ensures.carried

pub invariant_of-self-in-Err : goal.invariant_of-self-in-Err
invariant_of-self-in-Err g c =
    let s = c.args.self.now in
    unknown-tape s _ c.set_mark.result s refl c.set_mark.ensures.seen c.set_mark.ensures.settled
    (λ bytes. mark_steps referenced_place true (slice_index bytes referenced_place)) (referenced-plans s) c.set_mark.ensures.carried

pub returns-in-Ok-clause-did : goal.returns-in-Ok-clause-did
returns-in-Ok-clause-did g c = Tape-done _ _ (SetReferenced ∷ [])
    (referenced-outcome c.args.self.now _ _ c.requires c.in-Ok.ensures.carried) refl

pub returns-in-Err-clause-did : goal.returns-in-Err-clause-did
returns-in-Err-clause-did g c = Tape-broke _ _ (SetReferenced ∷ [])
    (referenced-outcome c.args.self.now _ _ c.requires c.in-Err.ensures.carried) c.saturating_add-self.ensures (omega arith)

pub returns-in-Ok-clause-changes : goal.returns-in-Ok-clause-changes
returns-in-Ok-clause-changes g c = changes-stood g.D.Disk.means _ _ _ _ c.in-Ok.ensures.carried
