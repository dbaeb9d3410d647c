use Rattle.std.proofs.Common.{[], ◌∷◌, arith}
use Rattle.qic_base.specs.Step.{WriteSectors}
use Rattle.qic_base.specs.TapeCalls.{chosen}
use Rattle.cart_image.specs.Image.{segment_views}
use Rattle.cart_image.specs.Layout.{write_sectors_steps}
use Rattle.cart_image.proofs.Carries.{Failed-cut}
use Rattle.cart_image.proofs.Exits.{Carried-after, CarriedBy-failed, CarriedBy-layout, changes-stood}
use Rattle.cart_image.proofs.Tapes.{Tape-done, Tape-broke, tape-settled, sectors-plans, sectors-outcome, blank-fact, unknown-tape}
use Rattle.cart_image.proofs.Tapes.{carried-ok, carried-err}
use Rattle.cart_image.proofs.Known.{told-same}
use Rattle.cart_image.proofs.tape.ImageTapeTape.write_sectors.Goals as goal

pub returns-in-Err-clause-did : goal.returns-in-Err-clause-did
returns-in-Err-clause-did g c =
    let l = c.in-Err.ensures.looked in
    Tape-broke _ _ _
    (Failed-cut g.D.Disk.means _ (tape-settled c.args.self.now) l.0 _
    (WriteSectors c.args.segment (chosen c.args.written c.args.from.now) ∷ []) l.1 l.2)
    (omega (arith, c.saturating_add-self.ensures, c.in-Err.ensures.faults)) (omega arith)

pub returns-in-Err-clause-steps : goal.returns-in-Err-clause-steps
returns-in-Err-clause-steps g c = CarriedBy-failed _ g.D.Disk.means _ _ _ _ _ c.in-Err.ensures.looked

pub invariant_of-self-in-Ok-write_sectors : goal.invariant_of-self-in-Ok-write_sectors
invariant_of-self-in-Ok-write_sectors g c =
    let s = c.args.self.now in
    let are = c.write_sectors.ensures.sectors in
    unknown-tape s _ c.write_sectors.result c.look_at_sectors.new.self c.in-Ok.ensures.layout c.write_sectors.ensures.seen
    c.write_sectors.ensures.settled
    (λ bytes. write_sectors_steps c.layout-layout.result c.args.segment c.args.written c.args.from.now
    (segment_views c.layout-layout.result c.args.segment bytes))
    (λ has. sectors-plans s c.layout-layout.result c.args.segment 0 c.layout-layout.ensures c.requires c.args.written c.args.from.now are)
    (Carried-after g.D.Disk.means _ _ _ _ _ c.in-Ok.ensures.looked c.write_sectors.ensures.carried)

pub invariant_of-self-in-Err-write_sectors : goal.invariant_of-self-in-Err-write_sectors
invariant_of-self-in-Err-write_sectors g c =
    let s = c.args.self.now in
    let are = c.write_sectors.ensures.sectors in
    unknown-tape s _ c.write_sectors.result c.look_at_sectors.new.self c.in-Ok.ensures.layout c.write_sectors.ensures.seen
    c.write_sectors.ensures.settled
    (λ bytes. write_sectors_steps c.layout-layout.result c.args.segment c.args.written c.args.from.now
    (segment_views c.layout-layout.result c.args.segment bytes))
    (λ has. sectors-plans s c.layout-layout.result c.args.segment 0 c.layout-layout.ensures c.requires c.args.written c.args.from.now are)
    (Carried-after g.D.Disk.means _ _ _ _ _ c.in-Ok.ensures.looked c.write_sectors.ensures.carried)

pub returns-in-Ok-write_sectors-clause-did : goal.returns-in-Ok-write_sectors-clause-did
returns-in-Ok-write_sectors-clause-did g c =
    let are = c.in-Ok-write_sectors.ensures.sectors in
    Tape-done _ _ (WriteSectors c.args.segment (chosen c.args.written c.args.from.now) ∷ [])
    (sectors-outcome c.args.self.now c.layout-layout.result c.args.segment 0 c.layout-layout.ensures c.requires c.args.written
    c.args.from.now are _ _
    (Carried-after g.D.Disk.means _ _ _ _ _ c.in-Ok.ensures.looked c.in-Ok-write_sectors.ensures.carried)) c.in-Ok.ensures.faults

pub returns-in-Err-write_sectors-clause-did : goal.returns-in-Err-write_sectors-clause-did
returns-in-Err-write_sectors-clause-did g c =
    let are = c.in-Err-write_sectors.ensures.sectors in
    Tape-broke _ _ (WriteSectors c.args.segment (chosen c.args.written c.args.from.now) ∷ [])
    (sectors-outcome c.args.self.now c.layout-layout.result c.args.segment 0 c.layout-layout.ensures c.requires c.args.written
    c.args.from.now are _ _
    (Carried-after g.D.Disk.means _ _ _ _ _ c.in-Ok.ensures.looked c.in-Err-write_sectors.ensures.carried))
    (omega (arith, c.saturating_add-self-in-Err-write_sectors.ensures, c.in-Ok.ensures.faults)) (omega arith)

pub returns-in-Ok-write_sectors-clause-answer : goal.returns-in-Ok-write_sectors-clause-answer
returns-in-Ok-write_sectors-clause-answer g c =
    blank-fact c.args.self.now c.layout-layout.result c.args.segment 0 c.layout-layout.ensures c.requires
    c.args.written c.in-Ok-write_sectors.blank (told-same _ c.in-Ok.ensures.looked.told
    c.in-Ok-write_sectors.ensures.answer)

pub returns-in-Ok-write_sectors-clause-changes : goal.returns-in-Ok-write_sectors-clause-changes
returns-in-Ok-write_sectors-clause-changes g c = changes-stood g.D.Disk.means _ _ _ _
    (Carried-after g.D.Disk.means _ _ _ _ _ c.in-Ok.ensures.looked c.in-Ok-write_sectors.ensures.carried)

pub returns-in-Ok-write_sectors-clause-steps : goal.returns-in-Ok-write_sectors-clause-steps
returns-in-Ok-write_sectors-clause-steps g c =
    CarriedBy-layout g.D.Disk.means _ _ _ c.layout-layout.result
    (λ l bytes. write_sectors_steps l c.args.segment c.args.written c.args.from.now (segment_views l c.args.segment bytes)) _
    c.layout-layout.ensures
    (carried-ok g.D.Disk.means _ _ _ c.in-Ok-write_sectors.blank c.in-Ok-write_sectors.blank
    (Carried-after g.D.Disk.means _ _ _ _ _ c.in-Ok.ensures.looked c.in-Ok-write_sectors.ensures.carried))

pub returns-in-Err-write_sectors-clause-steps : goal.returns-in-Err-write_sectors-clause-steps
returns-in-Err-write_sectors-clause-steps g c =
    CarriedBy-layout g.D.Disk.means _ _ _ c.layout-layout.result
    (λ l bytes. write_sectors_steps l c.args.segment c.args.written c.args.from.now (segment_views l c.args.segment bytes)) _
    c.layout-layout.ensures
    (carried-err g.D.Disk.means _ _ _ _ _
    (Carried-after g.D.Disk.means _ _ _ _ _ c.in-Ok.ensures.looked c.in-Err-write_sectors.ensures.carried))
