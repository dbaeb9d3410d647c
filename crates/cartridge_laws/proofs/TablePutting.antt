-- A slot that was written shows its entry behind those of the slots before it.
use Rattle.std.proofs.Common.{◌≡◌, ℕ, ◌<◌, List, [], ◌∷◌, ◌++◌, length, refl}
use Rattle.cartridge_laws.proofs.SlotBytes.{length-slot_bytes, slot_is_used, slot_shows}
use Rattle.cartridge_laws.proofs.Slots.{IsLong, shows_more, area_is_long}
use Rattle.cartridge_laws.proofs.TableLists.{volumes_are_determined}
use Rattle.cartridge_laws.proofs.TableOrders.{sound_is_faultless}
use Rattle.cartridge_laws.specs.Slots.{FitsSlot, with_slot}
use Rattle.cartridge_laws.specs.TableLaws.{PutEntryIsShown, PutEntryAloneIsShown, PutEntryIsFaultless}
use Rattle.cartridge_spec.specs.Table.{slot_bytes, Entry, Shows}

-- ---- the list

pub put_shows : (area : List (List ℕ)) (es : List Entry) (e : Entry) (n : ℕ) → IsLong area → Shows area es → length es ≡ n → n < 232 →
    FitsSlot e →
    Shows (with_slot area n (slot_bytes e)) (es ++ e ∷ [])
put_shows area es e n is shows count within fits =
    shows_more area es e (slot_bytes e) n is shows count within
    (length-slot_bytes e fits.name) (slot_is_used e fits.name) (slot_shows e fits)

pub put_entry_is_shown : PutEntryIsShown
put_entry_is_shown area entries entry is shows within fits =
    put_shows area entries entry (length entries) (area_is_long area is) shows refl within fits

pub put_entry_alone_is_shown : PutEntryAloneIsShown
put_entry_alone_is_shown area entries entry others is shows within fits other =
    volumes_are_determined (with_slot area (length entries) (slot_bytes entry)) others (entries ++ entry ∷ []) other
    (put_entry_is_shown area entries entry is shows within fits)

pub put_entry_is_faultless : PutEntryIsFaultless
put_entry_is_faultless area last entries entry is shows within fits sound =
    sound_is_faultless (with_slot area (length entries) (slot_bytes entry)) last (entries ++ entry ∷ []) sound
    (put_entry_is_shown area entries entry is shows within fits)
