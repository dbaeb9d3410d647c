use Rattle.std.proofs.Common.{[], ◌∷◌, refl, arith}
use Rattle.qic_base.specs.Step.{FormatSegment}
use Rattle.cart_image.specs.Layout.{format_plan}
use Rattle.cart_image.proofs.Tapes.{Tape-done, Tape-broke, format-outcome, format-plans, unknown-tape}
use Rattle.cart_image.proofs.Exits.{changes-stood}
use Rattle.cart_image.proofs.tape.ImageTapeTape.format_segment.Goals as goal

pub invariant_of-self : goal.invariant_of-self
invariant_of-self g c =
    let s = c.args.self.now in
    unknown-tape s _ c.format_segment.result s refl c.format_segment.ensures.seen c.format_segment.ensures.settled
    (λ bytes. format_plan c.layout-layout.result c.args.segment bytes)
    (λ has. format-plans s c.layout-layout.result c.args.segment 0 c.layout-layout.ensures c.requires) c.format_segment.ensures.carried

pub invariant_of-self-in-Err : goal.invariant_of-self-in-Err
invariant_of-self-in-Err g c =
    let s = c.args.self.now in
    unknown-tape s _ c.format_segment.result s refl c.format_segment.ensures.seen c.format_segment.ensures.settled
    (λ bytes. format_plan c.layout-layout.result c.args.segment bytes)
    (λ has. format-plans s c.layout-layout.result c.args.segment 0 c.layout-layout.ensures c.requires) c.format_segment.ensures.carried

pub returns-in-Ok-clause-did : goal.returns-in-Ok-clause-did
returns-in-Ok-clause-did g c = Tape-done _ _ (FormatSegment c.args.segment ∷ [])
    (format-outcome c.args.self.now c.layout-layout.result c.args.segment 0 c.layout-layout.ensures c.requires _ _ c.in-Ok.ensures.carried)
    refl

pub returns-in-Err-clause-did : goal.returns-in-Err-clause-did
returns-in-Err-clause-did g c = Tape-broke _ _ (FormatSegment c.args.segment ∷ [])
    (format-outcome c.args.self.now c.layout-layout.result c.args.segment 0 c.layout-layout.ensures c.requires _ _ c.in-Err.ensures.carried)
    c.saturating_add-self.ensures (omega arith)

pub returns-in-Ok-clause-changes : goal.returns-in-Ok-clause-changes
returns-in-Ok-clause-changes g c = changes-stood g.D.Disk.means _ _ _ _ c.in-Ok.ensures.carried
