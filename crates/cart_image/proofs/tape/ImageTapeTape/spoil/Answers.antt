use Rattle.std.proofs.Common.{[], ◌∷◌, refl, ◌≡◌, arith}
use Rattle.qic_base.specs.Step.{Spoil, spoiled_view}
use Rattle.qic_base.specs.Tape.{spoil_answer}
use Rattle.cart_image.specs.Image.{view_in}
use Rattle.cart_image.specs.Layout.{spoil_steps}
use Rattle.cart_image.proofs.Carries.{Failed-cut}
use Rattle.cart_image.proofs.Exits.{Carried-after, CarriedBy-failed, changes-stood}
use Rattle.cart_image.proofs.Known.{state-at, known-right, told-same}
use Rattle.cart_image.proofs.Tapes.{Tape-done, Tape-broke, tape-settled, spoil-outcome, spoil-plans, seen-fact, known-tape, unknown-tape}
use Rattle.cart_image.proofs.Tapes.{size-same}
use Rattle.cart_image.proofs.tape.ImageTapeTape.spoil.Goals as goal

pub invariant_of-self : goal.invariant_of-self
invariant_of-self g c =
    let s = c.look.new.self in
    record { settled = s.settled; shortest = s.shortest; longest = s.longest; covers = s.covers; laid = s.laid; right = s.right }

pub returns-in-Err-clause-did : goal.returns-in-Err-clause-did
returns-in-Err-clause-did g c =
    let l = c.in-Err.ensures.looked in
    Tape-broke _ _ (Spoil c.args.segment c.args.sector ∷ [])
    (Failed-cut g.D.Disk.means _ (tape-settled c.args.self.now) l.0 _ (Spoil c.args.segment c.args.sector ∷ []) l.1 l.2)
    (omega (arith, c.saturating_add-self.ensures, c.in-Err.ensures.faults)) (omega arith)

pub returns-in-Err-clause-steps : goal.returns-in-Err-clause-steps
returns-in-Err-clause-steps g c = CarriedBy-failed _ g.D.Disk.means _ _ _ _ _ c.in-Err.ensures.looked

pub returns-in-Err-clause-size : goal.returns-in-Err-clause-size
returns-in-Err-clause-size g c = size-same _ _ c.in-Err.ensures.layout

pub spoil-requires-clause-state : goal.spoil-requires-clause-state
spoil-requires-clause-state g c = state-at c.in-Ok.state c.layout-layout.result c.sector_number.result _ _ c.sector_number.ensures
    c.in-Ok.ensures.state

pub invariant_of-self-in-Ok-spoil : goal.invariant_of-self-in-Ok-spoil
invariant_of-self-in-Ok-spoil g c =
    let s = c.args.self.now in
    known-tape s _ c.spoil.result c.look.new.self c.in-Ok.ensures.layout c.spoil.ensures.seen c.spoil.ensures.settled
    (λ bytes. spoil_steps c.layout-layout.result c.sector_number.result (view_in c.layout-layout.result bytes c.sector_number.result))
    (λ has. spoil-plans c.args.self.now c.layout-layout.result c.args.segment c.args.sector c.layout-layout.ensures c.requires
    c.sector_number.result c.sector_number.ensures)
    (Carried-after g.D.Disk.means _ _ _ _ _ c.in-Ok.ensures.looked c.spoil.ensures.carried) _
    (known-right c.args.self.now c.layout-layout.result c.args.segment c.args.sector c.layout-layout.ensures c.requires c.look.new.self
    c.in-Ok.state c.spoiled.result _ (Spoil c.args.segment c.args.sector)
    (spoiled_view) _ c.in-Ok.ensures.looked.told c.in-Ok.ensures.known c.in-Ok.ensures.state (λ d. refl)
    (spoil-outcome c.args.self.now c.layout-layout.result c.args.segment c.args.sector c.layout-layout.ensures c.requires _ _
    c.sector_number.result c.sector_number.ensures
    (Carried-after g.D.Disk.means _ _ _ _ _ c.in-Ok.ensures.looked c.in-Ok-spoil.ensures.carried))
    c.spoiled.ensures c.known_with-self.ensures.known c.known_with-self.ensures.whole)

pub invariant_of-self-in-Err-spoil : goal.invariant_of-self-in-Err-spoil
invariant_of-self-in-Err-spoil g c =
    let s = c.args.self.now in
    unknown-tape s _ c.spoil.result c.look.new.self c.in-Ok.ensures.layout c.spoil.ensures.seen c.spoil.ensures.settled
    (λ bytes. spoil_steps c.layout-layout.result c.sector_number.result (view_in c.layout-layout.result bytes c.sector_number.result))
    (λ has. spoil-plans c.args.self.now c.layout-layout.result c.args.segment c.args.sector c.layout-layout.ensures c.requires
    c.sector_number.result c.sector_number.ensures)
    (Carried-after g.D.Disk.means _ _ _ _ _ c.in-Ok.ensures.looked c.spoil.ensures.carried)

pub returns-in-Ok-spoil-clause-did : goal.returns-in-Ok-spoil-clause-did
returns-in-Ok-spoil-clause-did g c = Tape-done _ _ (Spoil c.args.segment c.args.sector ∷ [])
    (spoil-outcome c.args.self.now c.layout-layout.result c.args.segment c.args.sector c.layout-layout.ensures c.requires _ _
    c.sector_number.result c.sector_number.ensures
    (Carried-after g.D.Disk.means _ _ _ _ _ c.in-Ok.ensures.looked c.in-Ok-spoil.ensures.carried)) c.in-Ok.ensures.faults

pub returns-in-Ok-spoil-clause-size : goal.returns-in-Ok-spoil-clause-size
returns-in-Ok-spoil-clause-size g c = size-same _ _ c.in-Ok.ensures.layout

pub returns-in-Err-spoil-clause-did : goal.returns-in-Err-spoil-clause-did
returns-in-Err-spoil-clause-did g c = Tape-broke _ _ (Spoil c.args.segment c.args.sector ∷ [])
    (spoil-outcome c.args.self.now c.layout-layout.result c.args.segment c.args.sector c.layout-layout.ensures c.requires _ _
    c.sector_number.result c.sector_number.ensures
    (Carried-after g.D.Disk.means _ _ _ _ _ c.in-Ok.ensures.looked c.in-Err-spoil.ensures.carried))
    (omega (arith, c.saturating_add-self-in-Err-spoil.ensures, c.in-Ok.ensures.faults)) (omega arith)

pub returns-in-Err-spoil-clause-size : goal.returns-in-Err-spoil-clause-size
returns-in-Err-spoil-clause-size g c = size-same _ _ c.in-Ok.ensures.layout

pub returns-in-Ok-spoil-clause-answer : goal.returns-in-Ok-spoil-clause-answer
returns-in-Ok-spoil-clause-answer g c =
    seen-fact c.args.self.now c.layout-layout.result c.args.segment c.args.sector c.layout-layout.ensures c.requires c.sector_number.result
    c.sector_number.ensures
    (λ v. c.in-Ok-spoil.spoiled ≡ spoil_answer v) (told-same _ c.in-Ok.ensures.looked.told c.in-Ok-spoil.ensures.answer)

pub returns-in-Ok-spoil-clause-changes : goal.returns-in-Ok-spoil-clause-changes
returns-in-Ok-spoil-clause-changes g c = changes-stood g.D.Disk.means _ _ _ _
    (Carried-after g.D.Disk.means _ _ _ _ _ c.in-Ok.ensures.looked c.in-Ok-spoil.ensures.carried)
