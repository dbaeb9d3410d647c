-- Each way out tells the slot's fault, by its signature and its range.
use Rattle.std.proofs.Common.{◌≡◌, false, sym, ◌∙◌}
use Rattle.cartridge_spec.specs.Table.{slot, is_free}
use Rattle.volume_table.proofs.SlotLaws.{is_free-signature, not_free-signature, is_used-signature, not_used-signature, slot_fault-not_used}
use Rattle.volume_table.proofs.SlotLaws.{slot_fault-behind_free, slot_fault-bad_range, has_bad_range-entry}
use Rattle.cartridge_laws.proofs.TableSlotLaws.{slot_fault-free, slot_fault-sound}
use Rattle.volume_table.proofs.slots.read_slot.Goals as goal
use Rattle.volume_table.proofs.slots.read_slot.Goals.{then-signature-ne-SIGNATURE-via-then-signature-ne-SIGNATURE}
use Rattle.volume_table.proofs.slots.read_slot.Goals.{then-signature-ne-SIGNATURE-via-else-signature-ne-SIGNATURE+then-seen_free}

pub returns-then-signature-eq0-clause-fault : goal.returns-then-signature-eq0-clause-fault
returns-then-signature-eq0-clause-fault c =
    slot_fault-free _ _ _ (is_free-signature c.args.area.now c.args.index _ _ c.slot_at-bytes.ensures.bytes c.read_u32-signature.ensures
    c.if-signature-eq0.true)

pub returns-then-signature-ne-SIGNATURE-clause-fault : goal.returns-then-signature-ne-SIGNATURE-clause-fault
returns-then-signature-ne-SIGNATURE-clause-fault c =
    let kept : is_free (slot c.args.area.now c.args.index) ≡ false =
    not_free-signature c.args.area.now c.args.index _ _ c.slot_at-bytes.ensures.bytes c.read_u32-signature.ensures c.if-signature-eq0.false
    in
    elim c.then-signature-ne-SIGNATURE.branch [
      | then-signature-ne-SIGNATURE-via-then-signature-ne-SIGNATURE w ↦
          slot_fault-not_used _ _ _ kept
          (not_used-signature c.args.area.now c.args.index _ _ c.slot_at-bytes.ensures.bytes c.read_u32-signature.ensures
          w.if-signature-ne-SIGNATURE.true)
      | then-signature-ne-SIGNATURE-via-else-signature-ne-SIGNATURE+then-seen_free w ↦
          slot_fault-behind_free _ _ _ kept
          (is_used-signature c.args.area.now c.args.index _ _ c.slot_at-bytes.ensures.bytes c.read_u32-signature.ensures
          w.if-signature-ne-SIGNATURE.false)
          (sym c.requires.free ∙ w.if-seen_free.true)
    ]

pub returns-then-is_bad_range-clause-fault : goal.returns-then-is_bad_range-clause-fault
returns-then-is_bad_range-clause-fault c =
    slot_fault-bad_range _ _ _
    (is_used-signature c.args.area.now c.args.index _ _ c.slot_at-bytes.ensures.bytes c.read_u32-signature.ensures
    c.if-signature-ne-SIGNATURE.false)
    (sym c.requires.free ∙ c.if-seen_free.false)
    (has_bad_range-entry c.args.area.now c.args.last c.args.index c.args.taken c.entry_at-entry.result _ _ c.slot_at-bytes.ensures.bytes
    c.entry_at-entry.ensures (c.requires.taken c.if-seen_free.false) c.is_bad_range.ensures ∙ c.if-is_bad_range.true)

pub returns-clause-fault : goal.returns-clause-fault
returns-clause-fault c =
    slot_fault-sound _ _ _
    (is_used-signature c.args.area.now c.args.index _ _ c.slot_at-bytes.ensures.bytes c.read_u32-signature.ensures
    c.if-signature-ne-SIGNATURE.false)
    (sym c.requires.free ∙ c.if-seen_free.false)
    (has_bad_range-entry c.args.area.now c.args.last c.args.index c.args.taken c.entry_at-entry.result _ _ c.slot_at-bytes.ensures.bytes
    c.entry_at-entry.ensures (c.requires.taken c.if-seen_free.false) c.is_bad_range.ensures ∙ c.if-is_bad_range.false)
