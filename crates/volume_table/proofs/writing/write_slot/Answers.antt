use Rattle.std.proofs.Common.{◌≡◌, ℕ, ◌+◌, ◌-◌, ◌*◌, ◌/◌, ◌%◌, List, [], get_or, length, set, sym, ap, ◌∙◌, arith}
use Rattle.std.proofs.lemmas.Option.{unwrap_or-slice_get}
use Rattle.qic_base.specs.Field.{overwritten}
use Rattle.cartridge_laws.proofs.SlotBytes.{length-slot_bytes}
use Rattle.cartridge_spec.specs.Table.{slot_bytes}
use Rattle.volume_table.specs.Entry.{entry_of}
use Rattle.volume_table.proofs.writing.write_slot.Goals as goal
use borrow.Rule.Slice.PartMut.{put_mid}
use Rattle.qic_base.proofs.FieldLaws.{put_mid-overwritten}

pub returns-clause-written : goal.returns-clause-written
returns-clause-written c =
    let k : ℕ = c.args.index / 8 in
    let at : ℕ = 128 * (c.args.index % 8) in
    let bytes : List ℕ = slot_bytes (entry_of c.args.entry.now) in
    let sector : List ℕ = get_or c.args.area.now k [] in
    let long : length bytes ≡ at + 128 - at = omega (arith, length-slot_bytes (entry_of c.args.entry.now) c.write_entry.ensures.fits.name)
    in
    ap (λ (xs : List ℕ). set c.args.area.now k (put_mid at (at + 128 - at) sector xs)) c.write_entry.ensures.spelled
    ∙ ap (set c.args.area.now k) (put_mid-overwritten sector bytes at (at + 128 - at) long)
    ∙ ap (λ (xs : List ℕ). set c.args.area.now k (overwritten xs at bytes)) (sym (unwrap_or-slice_get c.args.area.now k []))
