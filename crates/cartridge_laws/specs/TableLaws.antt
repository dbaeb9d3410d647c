-- Laws of the volume table (this project's profile).
use Rattle.std.specs.Prelude.{◌≡◌, ℕ, List, ◌⊎◌, ◌<◌, [], ◌∷◌, ◌++◌, length}
use Rattle.cartridge_laws.specs.Slots.{FitsSlot, TableFault, with_slot}
use Rattle.cartridge_laws.specs.Table.{IsSoundList}
use Rattle.cartridge_spec.specs.Shape.{IsArea}
use Rattle.cartridge_spec.specs.Table.{Entry, Shows, HasNoFault, IsFirstFault, slot_bytes}

-- two lists that the same data show are equal
abbrev pub VolumesAreDetermined : Type 0
VolumesAreDetermined =
    (area : List (List ℕ)) (one other : List Entry) → Shows area one → Shows area other → one ≡ other

-- data with no slot at fault show a list
abbrev pub SoundDataShowVolumes : Type 0
SoundDataShowVolumes =
    (area : List (List ℕ)) (last : ℕ) → HasNoFault area last → (entries : List Entry) × Shows area entries

-- data have a first slot at fault, or none is
abbrev pub DataAreSoundOrFaulty : Type 0
DataAreSoundOrFaulty =
    (area : List (List ℕ)) (last : ℕ) → ((fault : TableFault) × IsFirstFault area last fault) ⊎ HasNoFault area last

-- data with no slot at fault show a list in order
abbrev pub FaultlessIsSound : Type 0
FaultlessIsSound =
    (area : List (List ℕ)) (last : ℕ) (entries : List Entry) → HasNoFault area last → Shows area entries →
    IsSoundList last entries

-- and data that show one have no slot at fault
abbrev pub SoundIsFaultless : Type 0
SoundIsFaultless =
    (area : List (List ℕ)) (last : ℕ) (entries : List Entry) → IsSoundList last entries → Shows area entries →
    HasNoFault area last

-- the data with an entry in the slot behind a list's show the list with that entry
abbrev pub PutEntryIsShown : Type 0
PutEntryIsShown =
    (area : List (List ℕ)) (entries : List Entry) (entry : Entry) →
    IsArea area → Shows area entries → length entries < 232 → FitsSlot entry →
    Shows (with_slot area (length entries) (slot_bytes entry)) (entries ++ entry ∷ [])

-- and no other list
abbrev pub PutEntryAloneIsShown : Type 0
PutEntryAloneIsShown =
    (area : List (List ℕ)) (entries : List Entry) (entry : Entry) (others : List Entry) →
    IsArea area → Shows area entries → length entries < 232 → FitsSlot entry →
    Shows (with_slot area (length entries) (slot_bytes entry)) others → others ≡ entries ++ entry ∷ []

-- they have no slot at fault, where that list is in order
abbrev pub PutEntryIsFaultless : Type 0
PutEntryIsFaultless =
    (area : List (List ℕ)) (last : ℕ) (entries : List Entry) (entry : Entry) →
    IsArea area → Shows area entries → length entries < 232 → FitsSlot entry → IsSoundList last (entries ++ entry ∷ []) →
    HasNoFault (with_slot area (length entries) (slot_bytes entry)) last
