-- A mounted cartridge whose volume table holds a list, and what appends, worn sectors and scrubs leave of it, whatever its
-- sectors hold, as facts (this project's own).
use Rattle.std.specs.Prelude.{◌≡◌, ℕ, ◌-◌, false, List, length, ◌⊎◌, [], ◌∷◌, ◌++◌, ◌^◌, ◌<◌, Option}
use Rattle.cartridge_laws.specs.Table.{IsSoundList}
use Rattle.cartridge_spec.specs.Formatting.{IsLabel}
use Rattle.cartridge_spec.specs.Header.{Header}
use Rattle.cartridge_spec.specs.HeaderCopies.{last_segment}
use Rattle.cartridge_spec.specs.TableSegment.{TableIs, table_cells}
use Rattle.cartridge_spec.specs.Mounting.{Mounted, Mounts, settled}
use Rattle.cartridge_laws.specs.TableCells.{HasList}
use Rattle.cartridge_spec.specs.Says.{ByCode, LostSectors, TableSays}
use Rattle.cartridge_spec.specs.Settling.{changed_by}
use Rattle.cartridge_spec.specs.Table.{Entry, Shows}
use Rattle.cartridge_spec.specs.Volumes.{worn}
use Rattle.command_spec.specs.Append.{Kept, Taking, Fits, TooLong, TooShort, append_acts, room_in, taking, kept_over}
use Rattle.command_laws.specs.AppendTerms.{entry_for}
use Rattle.command_spec.specs.Restore.{GivingEnd, Piece, Restores}
use Rattle.command_spec.specs.Scrub.{ScrubsAs}
use Rattle.command_spec.specs.declared.depth.Depth.TheVariants.{Shallow}
use Rattle.qic_base.specs.Acts.{steps_of, Act}
use Rattle.qic_base.specs.Cartridge.{Cartridge, IsLength}
use Rattle.qic_base.specs.CartridgeTerms.{IsCartridge}

-- what a store knows of its cartridge: the list is in order, and where the cartridge may be written the sectors of the table's
-- segment that can be read are those of a code block that shows the list
pub record IsListed (c : Cartridge) (words : List ℕ) (entries : List Entry) : Type 0 where
  pub long : IsLength c.info.segments_per_track
  pub last : length words - 1 ≡ last_segment c
  pub order : IsSoundList (last_segment c) entries
  pub list : c.info.protected ≡ false → HasList c entries

-- ---- the table

-- mounting leaves a cartridge so
abbrev pub MountedListed : Type 0
MountedListed =
    (c : Cartridge) (header : Header) (words : List ℕ) (table : List (List ℕ)) (entries : List Entry) → IsCartridge c →
    Mounts c (Mounted header words table entries) → IsListed (settled table c) words entries

-- its data show the list, or too many of its sectors are lost
abbrev pub ReadsList : Cartridge → List Entry → Type 0
ReadsList c entries = (table : List (List ℕ)) × TableIs c table × Shows table entries

abbrev pub LosesTable : Cartridge → Type 0
LosesTable c = (lost : ℕ) × TableSays (table_cells c) (ByCode (LostSectors lost))

-- it is one of the two: a code block agrees with the sectors that can be read
abbrev pub ListedReads : Type 0
ListedReads =
    (c : Cartridge) (words : List ℕ) (entries : List Entry) → IsListed c words entries → c.info.protected ≡ false →
    ReadsList c entries ⊎ LosesTable c

-- ---- an append

-- the list behind it, by what became of its input
abbrev pub listed_behind : Kept → (name : List ℕ) → (date : ℕ) → Taking → List Entry
listed_behind kept name date (Fits bytes) = kept.entries ++ entry_for kept name date bytes ∷ []
listed_behind kept name date (TooLong need have) = kept.entries
listed_behind kept name date (TooShort promised read) = kept.entries

abbrev pub AppendListed : Type 0
AppendListed =
    (c : Cartridge) (words : List ℕ) (entries : List Entry) (table : List (List ℕ)) (name : List ℕ) (date : ℕ)
    (promised : Option ℕ) (reply : Entry → List ℕ) (input : List ℕ) → IsListed c words entries → c.info.protected ≡ false →
    TableIs c table → IsLabel name → date < 2 ^ 32 →
    IsListed (changed_by (steps_of (append_acts (kept_over c words entries table) name date promised reply input)) c) words
    (listed_behind (kept_over c words entries table) name date (taking (room_in (kept_over c words entries table)) promised input))

-- ---- a worn sector, and a scrub

-- one in any place
abbrev pub WearListed : Type 0
WearListed =
    (c : Cartridge) (words : List ℕ) (entries : List Entry) (segment sector : ℕ) → IsListed c words entries →
    IsListed (worn segment sector c) words entries

abbrev pub ScrubListed : Type 0
ScrubListed =
    (c : Cartridge) (words : List ℕ) (entries : List Entry) (acts : List Act) → IsListed c words entries →
    c.info.protected ≡ false → ScrubsAs Shallow c words entries acts → IsListed (changed_by (steps_of acts) c) words entries

-- ---- over any sectors

-- a restore gives something, ..
abbrev pub RestoresAnyway : Type 0
RestoresAnyway =
    (c : Cartridge) (words : List ℕ) (needed : List Piece) →
    (acts : List Act) × (ending : GivingEnd) × Restores c words needed acts ending

-- .. and a scrub does something
abbrev pub ScrubsAnyway : Type 0
ScrubsAnyway = (c : Cartridge) (words : List ℕ) (entries : List Entry) → (acts : List Act) × ScrubsAs Shallow c words entries acts
