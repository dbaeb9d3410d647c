use Rattle.std.proofs.Common.{[], ◌∷◌, refl, sym, ◌∙◌, arith}
use Rattle.qic_base.specs.Step.{Upgrade}
use Rattle.cart_image.specs.declared.layout.Kind.TheVariants.{CellsBehind}
use Rattle.cart_image.proofs.Tapes.{Tape-done, Tape-broke, planes-cover, upgrade-carried, upgrade-outcome, upgraded-laid, upgraded-fits}
use Rattle.cart_image.proofs.Tapes.{version-is, stays-carried, stays-done, size-upgraded, carried-by, carried-ok, carried-err}
use Rattle.cart_image.proofs.Exits.{changes-stood}
use Rattle.cart_image.proofs.tape.ImageTapeTape.upgrade.Goals as goal

pub upgrade-requires : goal.upgrade-requires
upgrade-requires g c = record {
  covers = planes-cover c.args.self.now c.layout-layout.result c.layout-layout.ensures
      (sym c.touches.ensures ∙ c.if-not-touches.false);
}

pub invariant_of-self : goal.invariant_of-self
invariant_of-self g c =
    let settled = c.in-Ok.ensures.settled in
    record {
      settled = settled.only;
      shortest = λ l same. (upgraded-fits c.args.self.now c.layout-layout.result c.layout-layout.ensures
          (sym c.touches.ensures ∙ c.if-not-touches.false) l _ c.in-Ok.ensures.seen same).0;
      longest = λ l same. (upgraded-fits c.args.self.now c.layout-layout.result c.layout-layout.ensures
          (sym c.touches.ensures ∙ c.if-not-touches.false) l _ c.in-Ok.ensures.seen same).1;
      covers = λ l same. (upgraded-fits c.args.self.now c.layout-layout.result c.layout-layout.ensures
          (sym c.touches.ensures ∙ c.if-not-touches.false) l _ c.in-Ok.ensures.seen same).2;
      laid = upgraded-laid c.args.self.now c.layout-layout.result c.layout-layout.ensures
          (sym c.touches.ensures ∙ c.if-not-touches.false) _ _ _ refl c.in-Ok.ensures.planned;
      right = λ states bytes none told. cc;
    }

pub returns-in-Ok-clause-did : goal.returns-in-Ok-clause-did
returns-in-Ok-clause-did g c = Tape-done _ _ (Upgrade ∷ [])
    (upgrade-outcome c.args.self.now c.layout-layout.result c.layout-layout.ensures
    (sym c.touches.ensures ∙ c.if-not-touches.false) _ _ c.in-Ok.ensures.planned) refl

pub returns-in-Ok-clause-answer : goal.returns-in-Ok-clause-answer
returns-in-Ok-clause-answer g c = version-is c.args.self.now c.layout-layout.result c.layout-layout.ensures _
    c.version-in-Ok.ensures.version

pub returns-in-Ok-clause-size : goal.returns-in-Ok-clause-size
returns-in-Ok-clause-size g c = size-upgraded c.args.self.now c.layout-layout.result c.layout-layout.ensures
    (record { segments_per_track = c.layout-layout.result.segments_per_track; kind = CellsBehind }) refl

pub returns-in-Ok-clause-steps : goal.returns-in-Ok-clause-steps
returns-in-Ok-clause-steps g c = carried-by c.args.self.now c.layout-layout.result c.layout-layout.ensures _ _
    (carried-ok g.D.Disk.means _ _ _ _ _
    (upgrade-carried c.args.self.now c.layout-layout.result c.layout-layout.ensures
    (sym c.touches.ensures ∙ c.if-not-touches.false) _ _ c.in-Ok.ensures.planned))

pub returns-in-Err-clause-did : goal.returns-in-Err-clause-did
returns-in-Err-clause-did g c = Tape-broke _ _ (Upgrade ∷ [])
    (upgrade-outcome c.args.self.now c.layout-layout.result c.layout-layout.ensures
    (sym c.touches.ensures ∙ c.if-not-touches.false) _ _ c.in-Err.ensures.planned) c.saturating_add-self.ensures (omega arith)

pub returns-in-Err-clause-steps : goal.returns-in-Err-clause-steps
returns-in-Err-clause-steps g c = carried-by c.args.self.now c.layout-layout.result c.layout-layout.ensures _ _
    (carried-err g.D.Disk.means _ _ _ _ _
    (upgrade-carried c.args.self.now c.layout-layout.result c.layout-layout.ensures
    (sym c.touches.ensures ∙ c.if-not-touches.false) _ _ c.in-Err.ensures.planned))

pub returns-then-not-touches-clause-did : goal.returns-then-not-touches-clause-did
returns-then-not-touches-clause-did g c = Tape-done _ _ (Upgrade ∷ [])
    (stays-done c.args.self.now c.layout-layout.result c.layout-layout.ensures (sym c.touches.ensures ∙ c.if-not-touches.true)) refl

pub returns-then-not-touches-clause-answer : goal.returns-then-not-touches-clause-answer
returns-then-not-touches-clause-answer g c =
    version-is c.args.self.now c.layout-layout.result c.layout-layout.ensures _ c.version.ensures.version

pub returns-then-not-touches-clause-steps : goal.returns-then-not-touches-clause-steps
returns-then-not-touches-clause-steps g c = carried-by c.args.self.now c.layout-layout.result c.layout-layout.ensures _ _
    (stays-carried c.args.self.now c.layout-layout.result c.layout-layout.ensures _ (sym c.touches.ensures ∙ c.if-not-touches.true))

pub returns-in-Ok-clause-changes : goal.returns-in-Ok-clause-changes
returns-in-Ok-clause-changes g c = changes-stood g.D.Disk.means _ _ _ _
    (upgrade-carried c.args.self.now c.layout-layout.result c.layout-layout.ensures
    (sym c.touches.ensures ∙ c.if-not-touches.false) _ _ c.in-Ok.ensures.planned)
