use Rattle.std.proofs.Common.{◌≡◌, ℕ, ◌<◌, ◌∙◌, ap, subst, sym, arith}
use Rattle.volume_table.specs.declared.fault.TableFault.{TableFault}
use Rattle.volume_table.specs.Fault.{fault_of}
use Rattle.cartridge_front.proofs.Slots.{fault_number, slot_within}
use Rattle.cartridge_front.proofs.volume_reader.decode_table.Goals as goal

pub returns-in-Err-ForeignSlot-clause-cause : goal.returns-in-Err-ForeignSlot-clause-cause
returns-in-Err-ForeignSlot-clause-cause c = λ n.
    let named : fault_number (fault_of c.in-Err-ForeignSlot.field-0) ≡ c.in-Err-ForeignSlot.slot =
    ap (λ (f : TableFault). fault_number (fault_of f)) c.in-Err-ForeignSlot.field-0-is in
    let within : c.from.result < 232 = subst (λ (value : ℕ). value < 232) (named ∙ sym c.from.ensures)
    (slot_within c.args.area.now c.args.last (fault_of c.in-Err-ForeignSlot.field-0) c.in-Err-ForeignSlot.ensures.fault) in
    let fits : c.from.result < 65536 = omega arith in
    (within, fits)

pub returns-in-Err-BadRange-clause-cause : goal.returns-in-Err-BadRange-clause-cause
returns-in-Err-BadRange-clause-cause c = λ n.
    let named : fault_number (fault_of c.in-Err-BadRange.field-0) ≡ c.in-Err-BadRange.slot =
    ap (λ (f : TableFault). fault_number (fault_of f)) c.in-Err-BadRange.field-0-is in
    let within : c.from-in-Err-BadRange.result < 232 = subst (λ (value : ℕ). value < 232) (named ∙ sym c.from-in-Err-BadRange.ensures)
    (slot_within c.args.area.now c.args.last (fault_of c.in-Err-BadRange.field-0) c.in-Err-BadRange.ensures.fault) in
    let fits : c.from-in-Err-BadRange.result < 65536 = omega arith in
    (within, fits)
