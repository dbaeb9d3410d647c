-- The table's data with one slot more show the old list and the new entry behind it, in order.
use Rattle.std.proofs.Common.{◌≡◌, ◌+◌, List, [], ◌∷◌, ◌++◌, map, refl, ap, ◌-◌, length, ℕ, ◌*◌, ◌%◌, set, sym, ◌∙◌, arith, ◌<◌, ◌^◌, ◌≤◌}
use Rattle.std.proofs.Common.{subst}
use Rattle.std.proofs.lemmas.List.{length-map, length-set, get_or-set_other}
use Rattle.std.specs.Prelude.{slice_index}
use Rattle.cartridge_laws.proofs.AppendOrders.{order_more}
use Rattle.cartridge_laws.proofs.AppendSegments.{AreTaken, HasRoom, room_most}
use Rattle.cartridge_laws.proofs.AppendTableWrites.{DifferIn}
use Rattle.cartridge_laws.proofs.AppendVolume.{ready_taken, old_order, plain_room}
use Rattle.cartridge_laws.proofs.HeaderRefusals.{plain_last}
use Rattle.cartridge_laws.proofs.MountParts.{data_sector}
use Rattle.cartridge_laws.proofs.SlotBytes.{length-slot_bytes, slot_is_used, slot_shows, slot_are_bytes}
use Rattle.cartridge_laws.proofs.Slots.{slot_area, area_is_long, shows_more}
use Rattle.cartridge_laws.specs.AppendLaws.{new_table, new_volume, MayAppendTo}
use Rattle.cartridge_laws.specs.AppendSettled.{DoneTableShows}
use Rattle.cartridge_laws.specs.Slots.{FitsSlot, slot_sector, with_slot}
use Rattle.cartridge_laws.specs.Table.{IsSoundList, last_end}
use Rattle.cartridge_laws.specs.VolumeParts.{new_segments}
use Rattle.cartridge_spec.specs.Appending.{Content}
use Rattle.cartridge_spec.specs.Shape.{IsArea, sector_at}
use Rattle.cartridge_spec.specs.HeaderCopies.{last_segment}
use Rattle.cartridge_spec.specs.Table.{Entry, Shows, slot_bytes}
use Rattle.cartridge_spec.specs.Volumes.{Volume, Plain, entries_of, capacity_between}
use Rattle.qic_base.specs.Cartridge.{Cartridge}
use Rattle.qic_base.specs.Field.{overwritten}

-- ---- lists

entries_more : (volumes : List Volume) (volume : Volume) →
    map (λ v. v.entry) (volumes ++ volume ∷ []) ≡ map (λ v. v.entry) volumes ++ volume.entry ∷ []
entries_more [] volume = refl
entries_more (v ∷ vs) volume = ap (λ (es : List Entry). v.entry ∷ es) (entries_more vs volume)

count_of_entries : (plain : Plain) → length (entries_of plain) ≡ length plain.volumes
count_of_entries plain = length-map plain.volumes (λ (v : Volume). v.entry)

-- ---- one slot more

-- the sectors of data that have not this slot are as they were
pub slot_differs : (area : List (List ℕ)) (n : ℕ) (bytes : List ℕ) → IsArea area → DifferIn area (with_slot area n bytes) (slot_sector n)
slot_differs area n bytes is i h apart =
    let k : ℕ = slot_sector n in
    let new : List ℕ = overwritten (sector_at area k) (128 * (n % 8)) bytes in
    let count : length area ≡ 29 = is.size in
    data_sector (set area k new) i (omega (arith, length-set area k new))
    ∙ get_or-set_other area k i new [] apart
    ∙ sym (data_sector area i (omega arith))

-- ---- the new entry

pub ready_count : (c : Cartridge) (plain : Plain) (content : Content) → MayAppendTo c plain content → length plain.volumes < 232
ready_count c plain content ready =
    let free : length (entries_of plain) < 232 = (plain_room plain (length content.bytes) ready.room).free_slot in
    omega (arith, count_of_entries plain)

ready_fits : (c : Cartridge) (plain : Plain) (content : Content) → MayAppendTo c plain content →
    FitsSlot (new_volume plain content).entry
ready_fits c plain content ready =
    let last : ℕ = last_segment c in
    let segments : List ℕ = new_segments plain content.bytes in
    let taken : AreTaken plain.words (last_end (entries_of plain)) last segments = ready_taken c plain content ready in
    let room : HasRoom plain.words (entries_of plain) (length content.bytes) = plain_room plain (length content.bytes) ready.room in
    let same : length plain.words - 1 ≡ last = plain_last c plain ready.stands in
    let long : c.info.segments_per_track ≤ 246 = ready.cartridge.long.longest in
    let starts : slice_index segments 0 ≡ taken.start = taken.starts in
    let ends : slice_index segments (length segments - 1) ≡ taken.end = taken.ends in
    let forwards : taken.start ≤ taken.end = taken.forwards in
    let within : taken.end ≤ last = taken.within in
    let enough : length content.bytes ≤ capacity_between plain.words (last_end (entries_of plain) + 1) (length plain.words - 1) =
    room.enough in
    let word : content.date < 2 ^ 32 = ready.appendable.word in
    record {
      start = omega arith;
      end = omega arith;
      name = ready.appendable.label.size;
      date = omega arith;
      directory = omega arith;
      size = omega (arith, room_most plain.words (entries_of plain) (length plain.words - 1));
    }

pub done_table_shows : DoneTableShows
done_table_shows c plain content ready =
    let last : ℕ = last_segment c in
    let segments : List ℕ = new_segments plain content.bytes in
    let volume : Volume = new_volume plain content in
    let entry : Entry = volume.entry in
    let n : ℕ = length plain.volumes in
    let fits : FitsSlot entry = ready_fits c plain content ready in
    let within : n < 232 = ready_count c plain content ready in
    let long : length (slot_bytes entry) ≡ 128 = length-slot_bytes entry fits.name in
    let area : IsArea plain.table_area = ready.stands.whole.table_area in
    let more = entries_more plain.volumes volume in
    let taken : AreTaken plain.words (last_end (entries_of plain)) last segments = ready_taken c plain content ready in
    let starts : entry.start ≡ taken.start = taken.starts in
    let ends : entry.end ≡ taken.end = taken.ends in
    let behind : last_end (entries_of plain) < taken.start = taken.behind in
    let forwards : taken.start ≤ taken.end = taken.forwards in
    let end : taken.end ≤ last = taken.within in (
      slot_area plain.table_area n (slot_bytes entry) area within long
          (slot_are_bytes entry ready.appendable.label.bytes (omega arith) (omega arith)),
      subst (λ (es : List Entry). Shows (new_table plain content) es) (sym more)
          (shows_more plain.table_area (entries_of plain) entry (slot_bytes entry) n (area_is_long plain.table_area area) ready.stands.shown
          (count_of_entries plain) within long
          (slot_is_used entry fits.name) (slot_shows entry fits)),
      subst (λ (es : List Entry). IsSoundList last es) (sym more)
          (order_more 2 last (entries_of plain) entry (old_order c plain ready.stands) (omega arith) (omega arith) (omega arith)),
    )
