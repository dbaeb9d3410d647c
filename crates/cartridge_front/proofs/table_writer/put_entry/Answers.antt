use Rattle.std.proofs.Common.{◌≡◌, ℕ, List, length, take, drop, ap, ◌∙◌}
use Rattle.std.proofs.lemmas.List.{take_at}
use Rattle.cartridge_spec.specs.Says.{with_parity}
use Rattle.cartridge_spec.specs.Table.{slot_bytes}
use Rattle.cartridge_laws.specs.Slots.{with_slot}
use Rattle.cartridge_laws.proofs.Sayings.{parity_put}
use Rattle.volume_table.specs.Entry.{entry_of}
use Rattle.cartridge_front.proofs.table_writer.put_entry.Goals as goal

pub returns-clause-block : goal.returns-clause-block
returns-clause-block c =
    let new : List (List ℕ) = c.put_parity.new.sectors in
    let slotted : length c.put_slot-changed.new.sectors ≡ 32 = c.put_slot-changed.ensures.room in
    let long : length new ≡ 32 = c.put_parity.auto.sectors ∙ slotted in
    take_at new (drop (length new) c.args.work.now) 32 long
    ∙ parity_put c.put_slot-changed.new.sectors new slotted c.put_parity.ensures.parity
    ∙ ap with_parity (c.put_slot-changed.ensures.data
    ∙ ap (λ (l : List (List ℕ)). with_slot (take 29 l) (length c.args.table.now) (slot_bytes (entry_of c.args.entry.now)))
    c.sectors_mut-sectors.ensures.value)
