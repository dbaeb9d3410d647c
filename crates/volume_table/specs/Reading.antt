-- What the slots before a slot have told, and what one slot tells (this project's profile).
use Rattle.std.specs.Prelude.{◌≡◌, ℕ, List, true, false, Option, Some, None}
use Rattle.cartridge_spec.specs.Table.{slot, entry_in, is_used, some_free_below, is_free}
use Rattle.volume_table.specs.Entry.{entry_of}
use Rattle.volume_table.specs.declared.entry.Entry.{Entry}
use Rattle.cartridge_spec.specs.Table as table

-- a slot shows this volume behind used slots alone
pub record ShowsVolume (area : List (List ℕ)) (i : ℕ) (entry : Entry) : Type 0 where
  pub used : is_used (slot area i) ≡ true
  pub shown : entry_of entry ≡ entry_in (slot area i)
  pub behind_used : some_free_below area i ≡ false

-- what a slot adds to the list: nothing where it is free
abbrev pub ShowsSlot : List (List ℕ) → ℕ → Option Entry → Type 0
ShowsSlot area i None = is_free (slot area i) ≡ true
ShowsSlot area i (Some entry) = ShowsVolume area i entry

-- slot i is as it is for a list with this entry there: used with the entry, or free behind the list
abbrev pub IsSlotOf : List (List ℕ) → ℕ → Option table.Entry → Type 0
IsSlotOf area i None = is_free (slot area i) ≡ true
IsSlotOf area i (Some entry) = (is_used (slot area i) ≡ true) × (entry ≡ entry_in (slot area i))
