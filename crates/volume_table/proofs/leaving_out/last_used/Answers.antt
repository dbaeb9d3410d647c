use Rattle.std.proofs.Common.{◌≡◌, suc, ◌+◌, List, map, sym, ap, ◌∙◌, subst, arith, add-one}
use Rattle.qic_base.specs.declared.tape.SectorView.{SectorView}
use Rattle.qic_base.specs.declared.tape.SectorView.TheVariants.{Holds}
use Rattle.cartridge_laws.specs.Segment.{hidden}
use Rattle.cartridge_spec.specs.Says.{last_used_below}
use Rattle.volume_table.proofs.Used.{last_none, last_here, last_before, IsAnswer, is_answer}
use Rattle.volume_table.proofs.leaving_out.last_used.Goals as goal
use Rattle.volume_table.proofs.leaving_out.last_used.Goals.{then-shows_used_slot, else-shows_used_slot}

pub loop-place-init : goal.loop-place-init
loop-place-init c = sym (last_none (hidden c.args.lost (map Holds c.args.area.now)))

pub loop-place-preserved : goal.loop-place-preserved
loop-place-preserved c =
    let cells : List SectorView = hidden c.args.lost (map Holds c.args.area.now) in
    let next : last_used_below cells (c.loop-place.place + 1) ≡ last_used_below cells (suc c.loop-place.place) = ap (last_used_below cells)
    (add-one c.loop-place.place) in
    elim c.if-shows_used_slot.branch [
      | then-shows_used_slot w ↦
          w.last-is ∙ sym (last_here cells c.loop-place.place (sym c.shows_used_slot.ensures ∙ w.if-shows_used_slot.true)) ∙ sym next
      | else-shows_used_slot w ↦
          w.last-is ∙ c.loop-place.invariant
          ∙ sym (last_before cells c.loop-place.place (sym c.shows_used_slot.ensures ∙ w.if-shows_used_slot.false)) ∙ sym next
    ]

pub returns-clause-greatest : goal.returns-clause-greatest
returns-clause-greatest c =
    let all : c.loop-place.place ≡ 29 = omega (arith, c.loop-place.auto.place-end, c.loop-place-test.false) in
    let last : c.loop-place.last ≡ last_used_below (hidden c.args.lost (map Holds c.args.area.now)) 29 =
    c.loop-place.invariant ∙ ap (last_used_below (hidden c.args.lost (map Holds c.args.area.now))) all in
    (subst (IsAnswer c.args.area.now c.args.lost) (sym last) (is_answer c.args.area.now c.args.lost c.requires)).0

pub returns-clause-none : goal.returns-clause-none
returns-clause-none c =
    let all : c.loop-place.place ≡ 29 = omega (arith, c.loop-place.auto.place-end, c.loop-place-test.false) in
    let last : c.loop-place.last ≡ last_used_below (hidden c.args.lost (map Holds c.args.area.now)) 29 =
    c.loop-place.invariant ∙ ap (last_used_below (hidden c.args.lost (map Holds c.args.area.now))) all in
    (subst (IsAnswer c.args.area.now c.args.lost) (sym last) (is_answer c.args.area.now c.args.lost c.requires)).1
