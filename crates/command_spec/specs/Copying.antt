-- The plain machine of a copy: the volumes of one cartridge are appended to another one, behind those that it has (this
-- project's own).
use Rattle.std.specs.Prelude.{ℕ, ◌+◌, List, [], ◌∷◌, ◌++◌, codes, length, drop, take, replicate, ◌≡◌, ◌≢◌, ◌⊎◌, ◌==◌, ◌&&◌, Bool, true}
use Rattle.std.specs.Prelude.{false, if◌then◌else◌, Option, Some, None}
use Rattle.std.specs.Str.{bytes_eq}
use Rattle.cartridge_spec.specs.Volumes.{bytes_in, volume_length}
use Rattle.cartridge_spec.specs.Appending.{entry_of_length}
use Rattle.cartridge_spec.specs.Header.{HeaderFault}
use Rattle.cartridge_spec.specs.TableSegment.{TableIs, table_cells}
use Rattle.cartridge_spec.specs.Mounting.{Mounting, Mounts, settled}
use Rattle.cartridge_spec.specs.Says.{Saying, Says, Data, LostSectors, Mismatch, ByCode, TableSays}
use Rattle.cartridge_spec.specs.Settling.{changed_by, settling_steps}
use Rattle.cartridge_spec.specs.Table.{Entry}
use Rattle.command_spec.specs.Append.{Kept, append_acts, has_promised_room, input_writes, kept_over, room_in}
use Rattle.command_spec.specs.Lines.{place_line, count_line}
use Rattle.command_spec.specs.Outcome.{settling_act}
use Rattle.command_spec.specs.Restore.{GivingEnd, Piece, Restored, LostIn, MismatchIn, Restores, piece_cells, pieces}
use Rattle.qic_base.specs.declared.store_fault.StoreFault.{StoreFault}
use Rattle.command_spec.specs.declared.copy_status.CopyStatus.{CopyStatus}
use Rattle.qic_base.specs.Acts.{Act, steps_of}
use Rattle.qic_base.specs.Cartridge.{Cartridge}
use Rattle.qic_base.specs.Step.{Step}
use Rattle.cartridge_spec.specs.Mounting as mounting
use Rattle.qic_base.specs.declared.store_fault.StoreFault.TheVariants as fault
use Rattle.command_spec.specs.declared.copy_status.CopyStatus.TheVariants as status

-- ---- the bytes that the source gives

-- a piece's bytes, by what its segment says: the first bytes of its data, or zero bytes in their place where it says none
abbrev pub bytes_said : Piece → Saying → List ℕ
bytes_said piece (Data sectors) = take piece.count (bytes_in sectors)
bytes_said piece (LostSectors lost) = replicate piece.count 0
bytes_said piece Mismatch = replicate piece.count 0

-- the bytes of all pieces, one after the other
abbrev pub GivenBytes : Cartridge → (words : List ℕ) → List Piece → (bytes : List ℕ) → Type 0
GivenBytes c words [] bytes = bytes ≡ []
GivenBytes c words (piece ∷ needed) bytes =
    (saying : Saying) × (rest : List ℕ) × Says (piece_cells c words piece) saying × GivenBytes c words needed rest
    × (bytes ≡ bytes_said piece saying ++ rest)

-- One of the two cartridges, mounted and settled: the words of its map, and the list of its volumes. Those of `from` are copied
-- to `to`.
pub record Side : Type 0 where
  pub cartridge : Cartridge
  pub words : List ℕ
  pub entries : List Entry

-- as a mounting leaves it
abbrev pub side_of : Cartridge → (words : List ℕ) → (table : List (List ℕ)) → List Entry → Side
side_of c words table entries = record { cartridge = settled table c; words = words; entries = entries }

-- a volume that was copied: its number on the target, and its length in bytes
abbrev pub copied_line : (number bytes : ℕ) → List ℕ
copied_line number bytes = place_line (codes "copied") number bytes

-- that of the volume behind so many
abbrev pub copied_behind : (count : ℕ) → Entry → List ℕ
copied_behind count e = copied_line (count + 1) e.size

-- ---- the volumes that are there already

-- two volumes, each with the words of its map, have the same name of 44 bytes, date word and length, whatever their bytes are
abbrev pub is_alike : (words : List ℕ) → Entry → (words' : List ℕ) → Entry → Bool
is_alike words e words' e' =
    bytes_eq e.name e'.name && (e.date == e'.date && volume_length words e == volume_length words' e')

-- the number of the first volume of the second list that is not like that of the first list at its place, or has none there,
-- where they are counted from this number on
abbrev pub difference : (words : List ℕ) → List Entry → (words' : List ℕ) → List Entry → (number : ℕ) → Option ℕ
difference words es words' [] number = None
difference words [] words' (e' ∷ es') number = Some number
difference words (e ∷ es) words' (e' ∷ es') number =
    if is_alike words e words' e' then difference words es words' es' (number + 1) else Some number

-- the first volume of the target that differs
abbrev pub first_difference : (from to : Side) → Option ℕ
first_difference from to = difference from.words from.entries to.words to.entries 1

-- ---- one volume

-- how many bytes of it are promised
abbrev pub length_on : Side → Entry → ℕ
length_on from e = volume_length from.words e

-- what the append to the target goes by, where its table's data are these
abbrev pub kept_on : Side → (table : List (List ℕ)) → Kept
kept_on to table = kept_over to.cartridge to.words to.entries table

-- the append of a volume of the source, with its name, its date word and its length, and these bytes
abbrev pub copy_acts : (from : Side) → Entry → (to : Side) → (table : List (List ℕ)) → (bytes : List ℕ) → List Act
copy_acts from e to table bytes =
    append_acts (kept_on to table) e.name e.date (Some (length_on from e)) (copied_behind (length to.entries)) bytes

-- its entry on the target
abbrev pub copied_entry : (from : Side) → Entry → (to : Side) → Entry
copied_entry from e to = entry_of_length to.words to.entries e.name e.date (length_on from e)

-- the target behind it
abbrev pub behind_copy : (from : Side) → Entry → (to : Side) → List Act → Side
behind_copy from e to acts = record to {
  cartridge = changed_by (steps_of acts) to.cartridge;
  entries = to.entries ++ copied_entry from e to ∷ [];
}

-- the volume table of the target has lost more than three sectors
pub record IsTargetLost (to : Side) (acts : List Act) (answer : CopyStatus) : Type 0 where
  pub lost : ℕ
  pub says : TableSays (table_cells to.cartridge) (ByCode (LostSectors lost))
  pub does : acts ≡ []
  pub answered : answer ≡ status.To (fault.Lost 2 lost)

abbrev pub has_room_for : (from : Side) → Entry → (to : Side) → Bool
has_room_for from e to = has_promised_room (room_in (kept_on to [])) (Some (length_on from e))

-- there is no room for it: the table is settled
pub record IsFull (from : Side) (e : Entry) (to : Side) (table : List (List ℕ)) (acts : List Act) (answer : CopyStatus) : Type 0 where
  pub none : has_room_for from e to ≡ false
  pub does : acts ≡ copy_acts from e to table []
  pub answered : answer ≡ status.To (fault.Full (length_on from e) (room_in (kept_on to table)))

-- some first acts of an append of these bytes: the settling of the table and segments, but no entry
pub record IsBegun (from : Side) (e : Entry) (to : Side) (table : List (List ℕ)) (bytes : List ℕ) (acts : List Act) : Type 0 where
  pub rest : List Act
  pub parts : acts ++ rest ≡ record { steps = (kept_on to table).settling; text = [] } ∷ input_writes to.words to.entries
      (Some (length_on from e)) bytes

-- what was done of the append, by how the giving of the volume's bytes ended
abbrev pub DoneOf : (from : Side) → Entry → (to : Side) → (table : List (List ℕ)) → (bytes : List ℕ) → GivingEnd → List Act → Type 0
DoneOf from e to table bytes Restored acts = acts ≡ copy_acts from e to table bytes
DoneOf from e to table bytes (LostIn segment lost) acts = IsBegun from e to table bytes acts
DoneOf from e to table bytes (MismatchIn segment) acts = IsBegun from e to table bytes acts

abbrev pub giving_status : GivingEnd → CopyStatus
giving_status Restored = status.Done
giving_status (LostIn segment lost) = status.From (fault.Lost segment lost)
giving_status (MismatchIn segment) = status.From (fault.Mismatch segment)

-- There is room, and the source gives the volume's bytes; the first of its segments that doesn't read ends the copy, and it
-- depends on how the bytes are asked for how many segments of the target were written before.
pub record IsGiven (from : Side) (e : Entry) (to : Side) (table : List (List ℕ)) (acts : List Act) (answer : CopyStatus) : Type 0 where
  pub room : has_room_for from e to ≡ true
  pub bytes : List ℕ
  pub given : GivenBytes from.cartridge from.words (pieces from.words e) bytes
  pub read : List Act
  pub ending : GivingEnd
  pub restores : Restores from.cartridge from.words (pieces from.words e) read ending
  pub does : DoneOf from e to table bytes ending acts
  pub answered : answer ≡ giving_status ending

-- A volume of the source is appended to the target, as an append does it that is promised the volume's length.
abbrev pub CopiesVolume : (from : Side) → Entry → (to : Side) → List Act → CopyStatus → Type 0
CopiesVolume from e to acts answer =
    IsTargetLost to acts answer
    ⊎ ((table : List (List ℕ)) × TableIs to.cartridge table × (IsFull from e to table acts answer ⊎ IsGiven from e to table acts answer))

-- ---- volumes one after the other

-- These volumes of the source, each on the target as the ones before it leave it. The first refusal ends them, and is the answer;
-- behind the last volume the target's are counted.
abbrev pub Copies : (from : Side) → List Entry → (to : Side) → List Act → CopyStatus → Type 0
Copies from [] to acts answer = (acts ≡ record { steps = []; text = count_line (length to.entries) } ∷ []) × (answer ≡ status.Done)
Copies from (e ∷ es) to acts answer =
    ((answer ≢ status.Done) × CopiesVolume from e to acts answer)
    ⊎ ((first : List Act) × (rest : List Act) × (first ++ rest ≡ acts) × CopiesVolume from e to first status.Done
    × Copies from es (behind_copy from e to first) rest answer)

-- the volumes that the target has not
abbrev pub missing : (from to : Side) → List Entry
missing from to = drop (length to.entries) from.entries

abbrev pub Compares : (from to : Side) → Option ℕ → List Act → CopyStatus → Type 0
Compares from to (Some number) acts answer = (acts ≡ []) × (answer ≡ status.Differs number)
Compares from to None acts answer = Copies from (missing from to) to acts answer

-- ---- the outcome

-- how the mounting of a cartridge is refused
abbrev pub foreign_fault : HeaderFault → StoreFault
foreign_fault found = fault.Foreign found.field found.value

-- what is done to the target's cartridge and printed, and how it is answered, by what the mounting of it gives: a protected one
-- is refused once it is mounted, also where nothing is missing
abbrev pub ToMounted : (from : Side) → Cartridge → Mounting → List Act → CopyStatus → Type 0
ToMounted from c mounting.NotFormatted acts answer = (acts ≡ []) × (answer ≡ status.To fault.NotFormatted)
ToMounted from c (mounting.Foreign found) acts answer = (acts ≡ []) × (answer ≡ status.To (foreign_fault found))
ToMounted from c (mounting.TableLost lost) acts answer = (acts ≡ []) × (answer ≡ status.To (fault.Lost 2 lost))
ToMounted from c mounting.TableMismatch acts answer = (acts ≡ []) × (answer ≡ status.To fault.TableMismatch)
ToMounted from c (mounting.Mounted header words table entries) acts answer =
    ((c.info.protected ≡ true) × (acts ≡ []) × (answer ≡ status.To fault.Protected))
    ⊎ ((c.info.protected ≡ false) × ((rest : List Act) × (acts ≡ settling_act table c ∷ rest)
    × Compares from (side_of c words table entries) (first_difference from (side_of c words table entries)) rest answer))

-- .. and by what its drive holds
abbrev pub ToDoes : (from : Side) → Option Cartridge → List Act → CopyStatus → Type 0
ToDoes from None acts answer = (acts ≡ []) × (answer ≡ status.ToAbsent)
ToDoes from (Some c) acts answer = (m : Mounting) × Mounts c m × ToMounted from c m acts answer

-- what is done to the source's cartridge, then to the target's and printed, and the answer
pub record CopyOutcome : Type 0 where
  pub settling : List Step
  pub acts : List Act
  pub status : CopyStatus

-- nothing was done but to answer
abbrev pub copy_refused : CopyStatus → CopyOutcome
copy_refused why = record { settling = []; acts = []; status = why }

abbrev pub FromMounted : Cartridge → Mounting → (to : Option Cartridge) → CopyOutcome → Type 0
FromMounted c mounting.NotFormatted to outcome = outcome ≡ copy_refused (status.From fault.NotFormatted)
FromMounted c (mounting.Foreign found) to outcome = outcome ≡ copy_refused (status.From (foreign_fault found))
FromMounted c (mounting.TableLost lost) to outcome = outcome ≡ copy_refused (status.From (fault.Lost 2 lost))
FromMounted c mounting.TableMismatch to outcome = outcome ≡ copy_refused (status.From fault.TableMismatch)
FromMounted c (mounting.Mounted header words table entries) to outcome =
    (outcome.settling ≡ settling_steps table c) × ToDoes (side_of c words table entries) to outcome.acts outcome.status

-- The plain machine, over what the two drives hold: the source is mounted first, then the target; then the volumes that both have
-- are compared, and the missing ones copied.
abbrev pub CopyYields : (from to : Option Cartridge) → CopyOutcome → Type 0
CopyYields None to outcome = outcome ≡ copy_refused status.FromAbsent
CopyYields (Some c) to outcome = (m : Mounting) × Mounts c m × FromMounted c m to outcome
