use Rattle.std.proofs.Common.{◌≡◌, true, false, sym, ap, ◌∙◌, arith}
use Rattle.cartridge_spec.specs.Table.{slot, is_used}
use Rattle.dump_spec.specs.Volumes.{is_passed}
use Rattle.dump_volumes.proofs.Slotted.{used_here, passed_here, ended_here, slots_end}
use Rattle.dump_volumes.proofs.slots.next_slot.Goals as goal

pub returns-then-is_used : goal.returns-then-is_used
returns-then-is_used c =
    let used : is_used (slot c.args.area.now c.loop-at.at) ≡ true =
    ap is_used (sym c.slot_at-bytes.ensures.bytes) ∙ sym c.is_used.ensures ∙ c.if-is_used.true in
    record {
      behind = omega arith;
      within = omega arith;
      here = c.loop-at.invariant ∙ used_here c.args.area.now c.loop-at.at (omega arith) used;
    }

pub returns-then-not-is_passed : goal.returns-then-not-is_passed
returns-then-not-is_passed c =
    let other : is_used (slot c.args.area.now c.loop-at.at) ≡ false =
    ap is_used (sym c.slot_at-bytes.ensures.bytes) ∙ sym c.is_used.ensures ∙ c.if-is_used.false in
    let ends : is_passed (slot c.args.area.now c.loop-at.at) ≡ false =
    ap is_passed (sym c.slot_at-bytes.ensures.bytes) ∙ sym c.is_passed.ensures ∙ c.if-not-is_passed.true in
    c.loop-at.invariant ∙ ended_here c.args.area.now c.loop-at.at (omega arith) other ends

pub loop-at-preserved : goal.loop-at-preserved
loop-at-preserved c =
    let other : is_used (slot c.args.area.now c.loop-at.at) ≡ false =
    ap is_used (sym c.slot_at-bytes.ensures.bytes) ∙ sym c.is_used.ensures ∙ c.if-is_used.false in
    let passed : is_passed (slot c.args.area.now c.loop-at.at) ≡ true =
    ap is_passed (sym c.slot_at-bytes.ensures.bytes) ∙ sym c.is_passed.ensures ∙ c.if-not-is_passed.false in
    c.loop-at.invariant ∙ passed_here c.args.area.now c.loop-at.at (omega arith) other passed

pub returns : goal.returns
returns c = c.loop-at.invariant ∙ slots_end c.args.area.now c.loop-at.at (omega arith)
