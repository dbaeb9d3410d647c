-- The room that a full target of a copy is refused with, as a fact (this project's own).
use Rattle.std.specs.Prelude.{◌≡◌, ℕ, List, [], ◌∷◌, ◌++◌, Option, Some, IsSomeAnd, slice_get, take}
use Rattle.cartridge_spec.specs.Appending.{entry_of_length, room}
use Rattle.cartridge_spec.specs.Table.{Entry}
use Rattle.command_spec.specs.CopyGiven.{MountsSide}
use Rattle.command_spec.specs.CopyPromises.{CopyPromises, Decks}
use Rattle.command_spec.specs.Copying.{CopyOutcome, CopyYields, Side, length_on, missing}
use Rattle.command_spec.specs.declared.copy_status.CopyStatus.{CopyStatus}
use Rattle.qic_base.specs.Cartridge.{Cartridge}
use Rattle.qic_base.specs.declared.store_fault.StoreFault.TheVariants as fault
use Rattle.command_spec.specs.declared.copy_status.CopyStatus.TheVariants as status
use Rattle.qic_base.specs.Sink as sinks
use Rattle.qic_base.specs.Tape as tapes

-- the list of a target with the entries that some volumes of the source get behind it, one after the other
abbrev pub list_with : (from : Side) → List Entry → (words : List ℕ) → (entries : List Entry) → List Entry
list_with from [] words entries = entries
list_with from (e ∷ es) words entries =
    list_with from es words (entries ++ entry_of_length words entries e.name e.date (length_on from e) ∷ [])

-- One of the missing volumes needs so many bytes, and behind the target's volumes and those that were copied before it there is this
-- room.
pub record NamesRoom (from to : Side) (need have : ℕ) : Type 0 where
  pub count : ℕ
  pub volume : Entry
  pub next : slice_get (missing from to) count ≡ Some volume
  pub needs : need ≡ length_on from volume
  pub has : have ≡ room to.words (list_with from (take count (missing from to)) to.words to.entries)

-- .. of both cartridges as they mount
abbrev pub NamesRoomOfBoth : (from to : Option Cartridge) → (need have : ℕ) → Type 0
NamesRoomOfBoth from to need have =
    IsSomeAnd from (λ c. IsSomeAnd to (λ d. (source : Side) × (target : Side) × MountsSide c source × MountsSide d target
    × NamesRoom source target need have))

-- an outcome that is refused as full names these two numbers, ..
abbrev pub FullCopyNamesRoom : Type 0
FullCopyNamesRoom =
    (from to : Option Cartridge) (outcome : CopyOutcome) (need have : ℕ) → CopyYields from to outcome →
    outcome.status ≡ status.To (fault.Full need have) → NamesRoomOfBoth from to need have

-- .. and so does each answer, where both tapes tell
abbrev pub FullAnswerNamesRoom : {A B K : Type 0} → tapes.Meaning A → tapes.Meaning B → sinks.Meaning K → Type 0
FullAnswerNamesRoom {A} {B} {K} a b k =
    (words : List (List ℕ)) (old new : Decks A B K) (answer : CopyStatus) (from to : Option Cartridge) (need have : ℕ) →
    CopyPromises a b k words old new answer → a.told old.from ≡ Some from → b.told old.to ≡ Some to →
    answer ≡ status.To (fault.Full need have) → NamesRoomOfBoth from to need have
