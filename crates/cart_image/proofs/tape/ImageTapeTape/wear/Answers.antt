use Rattle.std.proofs.Common.{[], ◌∷◌, refl, arith}
use Rattle.qic_base.specs.Step.{Wear, worn_view}
use Rattle.cart_image.specs.Image.{view_in}
use Rattle.cart_image.specs.Layout.{wear_steps}
use Rattle.cart_image.proofs.Carries.{Failed-cut}
use Rattle.cart_image.proofs.Exits.{Carried-after, CarriedBy-failed, changes-stood}
use Rattle.cart_image.proofs.Known.{state-at, known-right}
use Rattle.cart_image.proofs.Tapes.{Tape-done, Tape-broke, tape-settled, wear-outcome, wear-plans, known-tape, unknown-tape, size-same}
use Rattle.cart_image.proofs.tape.ImageTapeTape.wear.Goals as goal

pub invariant_of-self : goal.invariant_of-self
invariant_of-self g c =
    let s = c.look.new.self in
    record { settled = s.settled; shortest = s.shortest; longest = s.longest; covers = s.covers; laid = s.laid; right = s.right }

pub returns-in-Err-clause-did : goal.returns-in-Err-clause-did
returns-in-Err-clause-did g c =
    let l = c.in-Err.ensures.looked in
    Tape-broke _ _ (Wear c.args.segment c.args.sector ∷ [])
    (Failed-cut g.D.Disk.means _ (tape-settled c.args.self.now) l.0 _ (Wear c.args.segment c.args.sector ∷ []) l.1 l.2)
    (omega (arith, c.saturating_add-self.ensures, c.in-Err.ensures.faults)) (omega arith)

pub returns-in-Err-clause-steps : goal.returns-in-Err-clause-steps
returns-in-Err-clause-steps g c = CarriedBy-failed _ g.D.Disk.means _ _ _ _ _ c.in-Err.ensures.looked

pub returns-in-Err-clause-size : goal.returns-in-Err-clause-size
returns-in-Err-clause-size g c = size-same _ _ c.in-Err.ensures.layout

pub wear-requires-clause-state : goal.wear-requires-clause-state
wear-requires-clause-state g c = state-at c.in-Ok.state c.layout-layout.result c.sector_number.result _ _ c.sector_number.ensures
    c.in-Ok.ensures.state

pub invariant_of-self-in-Ok-wear : goal.invariant_of-self-in-Ok-wear
invariant_of-self-in-Ok-wear g c =
    let s = c.args.self.now in
    known-tape s _ c.wear.result c.look.new.self c.in-Ok.ensures.layout c.wear.ensures.seen c.wear.ensures.settled
    (λ bytes. wear_steps c.layout-layout.result c.sector_number.result (view_in c.layout-layout.result bytes c.sector_number.result))
    (λ has. wear-plans c.args.self.now c.layout-layout.result c.args.segment c.args.sector c.layout-layout.ensures c.requires
    c.sector_number.result c.sector_number.ensures)
    (Carried-after g.D.Disk.means _ _ _ _ _ c.in-Ok.ensures.looked c.wear.ensures.carried) _
    (known-right c.args.self.now c.layout-layout.result c.args.segment c.args.sector c.layout-layout.ensures c.requires c.look.new.self
    c.in-Ok.state c.worn.result _ (Wear c.args.segment c.args.sector) (worn_view) _ c.in-Ok.ensures.looked.told c.in-Ok.ensures.known
    c.in-Ok.ensures.state (λ d. refl)
    (wear-outcome c.args.self.now c.layout-layout.result c.args.segment c.args.sector c.layout-layout.ensures c.requires _ _
    c.sector_number.result c.sector_number.ensures
    (Carried-after g.D.Disk.means _ _ _ _ _ c.in-Ok.ensures.looked c.in-Ok-wear.ensures.carried))
    c.worn.ensures c.known_with-self.ensures.known c.known_with-self.ensures.whole)

pub invariant_of-self-in-Err-wear : goal.invariant_of-self-in-Err-wear
invariant_of-self-in-Err-wear g c =
    let s = c.args.self.now in
    unknown-tape s _ c.wear.result c.look.new.self c.in-Ok.ensures.layout c.wear.ensures.seen c.wear.ensures.settled
    (λ bytes. wear_steps c.layout-layout.result c.sector_number.result (view_in c.layout-layout.result bytes c.sector_number.result))
    (λ has. wear-plans c.args.self.now c.layout-layout.result c.args.segment c.args.sector c.layout-layout.ensures c.requires
    c.sector_number.result c.sector_number.ensures)
    (Carried-after g.D.Disk.means _ _ _ _ _ c.in-Ok.ensures.looked c.wear.ensures.carried)

pub returns-in-Ok-wear-clause-did : goal.returns-in-Ok-wear-clause-did
returns-in-Ok-wear-clause-did g c = Tape-done _ _ (Wear c.args.segment c.args.sector ∷ [])
    (wear-outcome c.args.self.now c.layout-layout.result c.args.segment c.args.sector c.layout-layout.ensures c.requires _ _
    c.sector_number.result c.sector_number.ensures
    (Carried-after g.D.Disk.means _ _ _ _ _ c.in-Ok.ensures.looked c.in-Ok-wear.ensures.carried)) c.in-Ok.ensures.faults

pub returns-in-Ok-wear-clause-size : goal.returns-in-Ok-wear-clause-size
returns-in-Ok-wear-clause-size g c = size-same _ _ c.in-Ok.ensures.layout

pub returns-in-Err-wear-clause-did : goal.returns-in-Err-wear-clause-did
returns-in-Err-wear-clause-did g c = Tape-broke _ _ (Wear c.args.segment c.args.sector ∷ [])
    (wear-outcome c.args.self.now c.layout-layout.result c.args.segment c.args.sector c.layout-layout.ensures c.requires _ _
    c.sector_number.result c.sector_number.ensures
    (Carried-after g.D.Disk.means _ _ _ _ _ c.in-Ok.ensures.looked c.in-Err-wear.ensures.carried))
    (omega (arith, c.saturating_add-self-in-Err-wear.ensures, c.in-Ok.ensures.faults)) (omega arith)

pub returns-in-Err-wear-clause-size : goal.returns-in-Err-wear-clause-size
returns-in-Err-wear-clause-size g c = size-same _ _ c.in-Ok.ensures.layout

pub returns-in-Ok-wear-clause-changes : goal.returns-in-Ok-wear-clause-changes
returns-in-Ok-wear-clause-changes g c = changes-stood g.D.Disk.means _ _ _ _
    (Carried-after g.D.Disk.means _ _ _ _ _ c.in-Ok.ensures.looked c.in-Ok-wear.ensures.carried)
