use Rattle.std.proofs.Common.{sym, ap, ◌∙◌, arith, add-one}
use Rattle.cartridge_spec.specs.Shape.{sector_at}
use Rattle.cartridge_spec.specs.Table.{is_used}
use Rattle.cartridge_spec.specs.Says.{some_used_below}
use Rattle.volume_table.proofs.SlotLaws.{is_used-signature, not_used-signature}
use Rattle.volume_table.proofs.Used.{none_below, none_more}
use Rattle.cartridge_laws.proofs.OneLossAppend.{slot_of_sector, some_used}
use Rattle.volume_table.proofs.leaving_out.has_used_slot.Goals as goal

pub loop-slot-init : goal.loop-slot-init
loop-slot-init c = none_below (sector_at c.args.area.now c.args.place)

pub returns-then-read_u32-eq-SIGNATURE : goal.returns-then-read_u32-eq-SIGNATURE
returns-then-read_u32-eq-SIGNATURE c =
    sym (some_used (sector_at c.args.area.now c.args.place) 8 c.loop-slot.slot
    (omega (arith, c.loop-slot-test.true, c.loop-slot.auto.slot-end))
    (ap is_used (slot_of_sector c.args.area.now c.args.place c.loop-slot.slot
    (omega (arith, c.loop-slot-test.true, c.loop-slot.auto.slot-end)))
    ∙ is_used-signature c.args.area.now _ c.read_u32.result c.slot_at.result.now c.slot_at.ensures.bytes c.read_u32.ensures
    c.if-read_u32-eq-SIGNATURE.true))

pub loop-slot-preserved : goal.loop-slot-preserved
loop-slot-preserved c =
    ap (some_used_below (sector_at c.args.area.now c.args.place)) (add-one c.loop-slot.slot)
    ∙ none_more (sector_at c.args.area.now c.args.place) c.loop-slot.slot c.loop-slot.invariant
    (ap is_used (slot_of_sector c.args.area.now c.args.place c.loop-slot.slot
    (omega (arith, c.loop-slot-test.true, c.loop-slot.auto.slot-end)))
    ∙ not_used-signature c.args.area.now _ c.read_u32.result c.slot_at.result.now c.slot_at.ensures.bytes c.read_u32.ensures
    c.if-read_u32-eq-SIGNATURE.false)
