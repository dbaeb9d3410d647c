-- The slots of the volume table: an entry that fits its slot, a slot at fault, and the sectors that have slots (Linux ftape headers:
-- the volume table entry of 128 bytes; the table is this project's profile).
use Rattle.std.specs.Prelude.{◌≡◌, ◌^◌, ◌<◌, length, ℕ, List, ◌-◌, ◌*◌, ◌/◌, ◌%◌, ◌&&◌, Bool, slice_set, nat_lt, nat_le}
use Rattle.cartridge_spec.specs.Table.{Entry, slot, entry_in}
use Rattle.cartridge_spec.specs.Header.{HeaderFault}
use Rattle.cartridge_spec.specs.Shape.{sector_at}
use Rattle.cartridge_spec.specs.Says.{some_used_below}
use Rattle.qic_base.specs.Field.{overwritten}
use Rattle.qic_base.specs.declared.foreign.ForeignField.TheVariants.{Slot, Range}

-- each field of an entry fits its place
pub record FitsSlot (e : Entry) : Type 0 where
  pub start : e.start < 256 ^ 2
  pub end : e.end < 256 ^ 2
  pub name : length e.name ≡ 44
  pub date : e.date < 256 ^ 4
  pub directory : e.directory < 256 ^ 4
  pub size : e.size < 256 ^ 8

-- a slot that holds no volume behind the others, or one of a bad range, and its number
abbrev pub TableFault : Type 0
TableFault = HeaderFault

abbrev pub ForeignSlot : ℕ → TableFault
ForeignSlot slot = record { field = Slot; value = slot }

abbrev pub BadRange : ℕ → TableFault
BadRange slot = record { field = Range; value = slot }

-- the sector of the table's data that has slot i
abbrev pub slot_sector : ℕ → ℕ
slot_sector i = i / 8

-- the table's data with these bytes in slot i; every other byte is as it was
abbrev pub with_slot : (area : List (List ℕ)) → (i : ℕ) → (bytes : List ℕ) → List (List ℕ)
with_slot area i bytes =
    slice_set area (slot_sector i) (overwritten (sector_at area (slot_sector i)) (128 * (i % 8)) bytes)

-- the end of the slot before this one lies at or behind its start
abbrev pub overlaps_before : List (List ℕ) → ℕ → Bool
overlaps_before area i = nat_lt 0 i && nat_le (entry_in (slot area i)).start (entry_in (slot area (i - 1))).end

-- some of a sector's eight slots is used
abbrev pub has_used_slot : List ℕ → Bool
has_used_slot bytes = some_used_below bytes 8
