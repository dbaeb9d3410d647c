-- What the calls that read a cartridge's header and its volume table find, and what they do to the tape (this project's
-- own).
use Rattle.std.specs.Prelude.{◌≡◌, ◌≢◌, ℕ, ◌-◌, ◌*◌, ◌<◌, Bool, true, false, List, [], length, take, Option, Some, None, Result, Ok, Err}
use Rattle.qic_base.specs.Cartridge.{Cartridge}
use Rattle.qic_base.specs.Step.{Step}
use Rattle.qic_base.specs.Tape.{Meaning, Done, Broke}
use Rattle.qic_base.specs.declared.foreign.ForeignField.{ForeignField}
use Rattle.qic_base.specs.declared.foreign.ForeignField.TheVariants.{FormatCode, FirstHeader, SecondHeader, FirstData, LastData}
use Rattle.qic_base.specs.declared.foreign.ForeignField.TheVariants.{SegmentsPerTrack, Tracks, TrackMaximum, SectorMaximum, Map, Slot}
use Rattle.qic_base.specs.declared.foreign.ForeignField.TheVariants.{Range}
use Rattle.cartridge_spec.specs.Header.{HeaderFault, has_signature, header_fault, Shows}
use Rattle.cartridge_laws.specs.HeaderTerms.{fault_as}
use Rattle.cartridge_spec.specs.Says.{TableSays}
use Rattle.cartridge_spec.specs.Says as says
use Rattle.cartridge_spec.specs.Table.{Entry, HasNoFault, IsFirstFault}
use Rattle.cartridge_spec.specs.Table as tables
use Rattle.cartridge_spec.specs.TableSegment.{table_cells, TableIs}
use Rattle.cartridge_spec.specs.HeaderCopies.{CopyReads, CopyDoesNotRead, IsFormatted, IsUnformatted}
use Rattle.cartridge_spec.specs.Mounting.{RefusesHeader}
use Rattle.header_segments.specs.declared.header.Header.{Header}
use Rattle.command_spec.specs.Numbers.{AreTooMany}
use Rattle.header_segments.specs.Header.{header_of}
use Rattle.header_segments.specs.Refusal.{FitsField}
use Rattle.cartridge_laws.specs.HeaderLaws.{AreTaken}
use Rattle.segment_solve.specs.declared.fault.SegFault.{SegFault}
use Rattle.segment_solve.specs.declared.fault.SegFault.TheVariants as seg
use Rattle.qic_base.specs.declared.store_fault.StoreFault.{StoreFault}
use Rattle.table_solve.specs.declared.unread.Unread.{Unread}
use Rattle.table_solve.specs.Reading.{IsReadBut}
use Rattle.qic_base.specs.declared.store_fault.StoreFault.TheVariants.{Foreign, NotFormatted, Lost, TableMismatch, Tape}

-- ---- the tape

abbrev pub is_tape : StoreFault → Bool
is_tape Tape = true
is_tape fault = false

-- a fault of the tape broke the steps off; another refusal comes before any of them
abbrev pub Refuses : {T : Type 0} (m : Meaning T) (old new : T) (steps : List Step) → (by_tape : Bool) → Type 0
Refuses m old new steps true = Broke m old new steps
Refuses m old new steps false = Done m old new []

-- the steps were done, or there is a refusal
abbrev pub Leaves : {T A : Type 0} (m : Meaning T) (old new : T) (steps : List Step) → Result A StoreFault → Type 0
Leaves m old new steps (Ok answer) = Done m old new steps
Leaves m old new steps (Err fault) = Refuses m old new steps (is_tape fault)

-- the refusals of a mounting, and its fault of the tape
abbrev pub is_of_mounting : StoreFault → Bool
is_of_mounting NotFormatted = true
is_of_mounting (Foreign field value) = true
is_of_mounting (Lost segment lost) = true
is_of_mounting TableMismatch = true
is_of_mounting Tape = true
is_of_mounting fault = false

-- there is no other, whatever the tape tells
abbrev pub RefusesMounting : {A : Type 0} → Result A StoreFault → Type 0
RefusesMounting (Ok answer) = Unit {0}
RefusesMounting (Err fault) = is_of_mounting fault ≡ true

-- ---- why, also where the tape tells nothing

-- The test of this field refuses the value, on a drive that reports so many segments per track: it is not the one that the
-- header has to have. Of the map the value is a segment in front with a bad sector, of the table a slot's number.
abbrev pub IsForeign : (n : ℕ) → ForeignField → (value : ℕ) → Type 0
IsForeign n FormatCode value = value ≢ 2
IsForeign n FirstHeader value = value ≢ 0
IsForeign n SecondHeader value = value ≢ 1
IsForeign n FirstData value = value ≢ 2
IsForeign n LastData value = value ≢ 28 * n - 1
IsForeign n SegmentsPerTrack value = value ≢ n
IsForeign n Tracks value = value ≢ 28
IsForeign n TrackMaximum value = value ≢ 149
IsForeign n SectorMaximum value = value ≢ 128
IsForeign n Map value = value < 3
IsForeign n Slot value = value < 232
IsForeign n Range value = value < 232

-- a mounting that is refused for a foreign value names one that its field can have, and for lost sectors segment 2 and too many
abbrev pub NamesCause : {A : Type 0} → (n : ℕ) → Result A StoreFault → Type 0
NamesCause n (Err (Foreign field value)) = IsForeign n field value × FitsField field value
NamesCause n (Err (Lost segment lost)) = (segment ≡ 2) × AreTooMany lost
NamesCause n answer = Unit {0}

-- ---- the header

-- what data are taken as by a drive that reports this many segments per track: a header and the words of a map, no
-- header, or one with a test that fails
abbrev pub TakesHeader : (area : List (List ℕ)) (n : ℕ) (words : List ℕ) → Result (Option Header) StoreFault → Type 0
TakesHeader area n words (Ok (Some header)) = AreTaken area n (header_of header) words
TakesHeader area n words (Ok None) = has_signature area ≡ false
TakesHeader area n words (Err (Foreign field value)) =
    (has_signature area ≡ true) × (header_fault area n ≡ Some (fault_as field value))
TakesHeader area n words (Err fault) = ⊥

-- a copy reads, and its data pass the tests and show this header and these words
pub record HasCopy (c : Cartridge) (copy n : ℕ) (words : List ℕ) (header : Header) : Type 0 where
  pub area : List (List ℕ)
  pub reads : CopyReads c copy area
  pub sound : header_fault area n ≡ None
  pub shown : Shows area (header_of header) words

-- a copy reads, and fails a test
pub record HasFaultyCopy (c : Cartridge) (copy n : ℕ) (fault : HeaderFault) : Type 0 where
  pub area : List (List ℕ)
  pub reads : CopyReads c copy area
  pub first : header_fault area n ≡ Some fault

-- what a header copy is
abbrev pub FindsCopy : Cartridge → (copy n : ℕ) (words : List ℕ) → Result (Option Header) StoreFault → Type 0
FindsCopy c copy n words (Ok (Some header)) = HasCopy c copy n words header
FindsCopy c copy n words (Ok None) = CopyDoesNotRead c copy
FindsCopy c copy n words (Err (Foreign field value)) = HasFaultyCopy c copy n (fault_as field value)
FindsCopy c copy n words (Err fault) = ⊥

-- a header in force that passes the tests
pub record HasFormat (c : Cartridge) (words : List ℕ) (header : Header) : Type 0 where
  pub area : List (List ℕ)
  pub formatted : IsFormatted c area (header_of header) words

-- what the header in force is
abbrev pub FindsHeader : Cartridge → (words : List ℕ) → Result Header StoreFault → Type 0
FindsHeader c words (Ok header) = HasFormat c words header
FindsHeader c words (Err NotFormatted) = IsUnformatted c
FindsHeader c words (Err (Foreign field value)) = RefusesHeader c (fault_as field value)
FindsHeader c words (Err fault) = ⊥

-- a header that was taken is one of so many segments per track, and the map has a word for each segment
pub record HasWords (n : ℕ) (words : List ℕ) (header : Header) : Type 0 where
  pub length_told : header.segments_per_track ≡ n
  pub size : length words ≡ 28 * n

abbrev pub HasMap : (n : ℕ) (words : List ℕ) → Option Header → Type 0
HasMap n words None = Unit {0}
HasMap n words (Some header) = HasWords n words header

-- ---- the table

-- the first 29 sectors are the table's data, or the table's segment says why there are none
abbrev pub FindsTable : {A : Type 0} (c : Cartridge) (sectors : List (List ℕ)) → Result A SegFault → Type 0
FindsTable c sectors (Ok done) = TableIs c (take 29 sectors)
FindsTable c sectors (Err (seg.Lost segment lost)) = (segment ≡ 2) × TableSays (table_cells c) (says.ByCode (says.LostSectors lost))
FindsTable c sectors (Err (seg.Mismatch segment)) = (segment ≡ 2) × TableSays (table_cells c) (says.ByCode says.Mismatch)

-- the refusal that a fault of the table's segment is
abbrev pub refusal_of : SegFault → StoreFault
refusal_of (seg.Lost segment lost) = Lost segment lost
refusal_of (seg.Mismatch segment) = TableMismatch

-- ---- the list of volumes

-- the data have no slot at fault on a cartridge whose last segment is this, and show these volumes
pub record ShowsVolumes (area : List (List ℕ)) (last : ℕ) (entries : List Entry) : Type 0 where
  pub sound : HasNoFault area last
  pub shown : tables.Shows area entries

-- a slot is at fault
pub record HasBadSlot (area : List (List ℕ)) (last : ℕ) (fault : HeaderFault) : Type 0 where
  pub first : IsFirstFault area last fault

-- how the decoding of the table's data ended
abbrev pub DecodesTable : (area : List (List ℕ)) (last : ℕ) (entries : List Entry) → Result (Unit {0}) StoreFault → Type 0
DecodesTable area last entries (Ok done) = ShowsVolumes area last entries
DecodesTable area last entries (Err (Foreign field value)) = HasBadSlot area last (fault_as field value)
DecodesTable area last entries (Err fault) = ⊥

-- the first 29 sectors are the table's data, all but these sectors of segment 2 stand as the tape holds them, and the data
-- show these volumes
pub record HasVolumes (c : Cartridge) (last : ℕ) (sectors : List (List ℕ)) (entries : List Entry) (unread : Unread) : Type 0 where
  pub table : TableIs c (take 29 sectors)
  pub known : IsReadBut (table_cells c) unread sectors
  pub volumes : ShowsVolumes (take 29 sectors) last entries

-- the table's data have a slot at fault
pub record HasBadTable (c : Cartridge) (last : ℕ) (fault : HeaderFault) : Type 0 where
  pub area : List (List ℕ)
  pub table : TableIs c area
  pub bad : HasBadSlot area last fault

-- what the volume table is
abbrev pub FindsVolumes : Cartridge → (last : ℕ) (sectors : List (List ℕ)) (entries : List Entry) → Result Unread StoreFault → Type 0
FindsVolumes c last sectors entries (Ok unread) = HasVolumes c last sectors entries unread
FindsVolumes c last sectors entries (Err (Lost segment lost)) = (segment ≡ 2)
    × TableSays (table_cells c) (says.ByCode (says.LostSectors lost))
FindsVolumes c last sectors entries (Err TableMismatch) = TableSays (table_cells c) (says.ByCode says.Mismatch)
FindsVolumes c last sectors entries (Err (Foreign field value)) = HasBadTable c last (fault_as field value)
FindsVolumes c last sectors entries (Err fault) = ⊥
