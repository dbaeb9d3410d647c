-- Which sectors the head can reach, and what a sector call does there (this project's profile of QIC-117).
use Rattle.std.specs.Prelude.{◌≡◌, ℕ, zero, suc, ◌+◌, ◌*◌, ◌%◌, ◌^◌, ◌≤◌, ◌⊎◌, ◌&&◌, not, Bool, true, false, if◌then◌else◌, List, [], ◌∷◌}
use Rattle.std.specs.Prelude.{Option, Some, None, Result, Ok, Err}
use Rattle.qic_base.specs.Cartridge.{view_at}
use Rattle.qic_base.specs.CartridgeTerms.{is_lost}
use Rattle.qic_base.specs.Step.{write_sector, WriteSectors, FormatSegment}
use Rattle.qic_base.specs.Tape.{Meaning, Done, Broke}
use Rattle.qic_base.specs.TapeCalls.{Tells, ReadsSectors, KeepsOthers, chosen, AreBlank}
use Rattle.qic_base.specs.declared.tape.SectorsRead.{SectorsRead}
use Rattle.qic_base.specs.declared.tape.TapeFailed.{TapeFailed}
use Rattle.qic_base.specs.declared.tape.SectorView.TheVariants as view
use Rattle.qic117_commands.specs.declared.view.Mode.{Mode}
use Rattle.qic117_commands.specs.declared.view.Mode.TheVariants.{Primary, Format, Verify}
use Rattle.qic117_commands.specs.Views.{is_format}
use Rattle.tape_geometry.specs.declared.geometry.FloppyAddr.{FloppyAddr}
use Rattle.tape_geometry.specs.Geometry.{HasAddress}
use Rattle.drive_spec.specs.declared.deck.Deck.{Deck}
use Rattle.drive_spec.specs.declared.deck.Motion.{Motion}
use Rattle.drive_spec.specs.declared.deck.Motion.TheVariants.{Stopped, Streaming, Seeking}
use Rattle.drive_spec.specs.Deck.{segments_per_track, is_streaming}
use Rattle.drive_spec.specs.Terms.{run_on}
use Rattle.drive_states.specs.declared.fault.FdcFault.{FdcFault}
use Rattle.drive_states.specs.declared.fault.FdcFault.TheVariants.{NoAddress, Protected, Unreadable}
use Rattle.drive_states.specs.Unit.{DeckAndTape}

-- which calls a mode has: sectors are read in Primary and Verify, written in Primary, and formatted in Format
abbrev pub reads_in : Mode → Bool
reads_in Primary = true
reads_in Format = false
reads_in Verify = true

-- the segment that comes next on the track
abbrev pub segment_of : Deck → ℕ
segment_of d = d.track * segments_per_track d + d.offset

-- the tape streams, and the sector index is not below the next one
abbrev pub StreamsTo : Motion → ℕ → Type 0
StreamsTo Stopped index = ⊥
StreamsTo (Streaming next) index = next ≤ index
StreamsTo (Seeking left) index = ⊥

-- the sector is one of the segment under the head, and the head has not passed it
pub record IsUnder (d : Deck) (segment index : ℕ) : Type 0 where
  pub streams : StreamsTo d.motion index
  pub here : segment ≡ segment_of d

-- the address is that of a sector that the head has not passed, ..
pub record HasAddressIn (d : Deck) (addr : FloppyAddr) (segment index : ℕ) : Type 0 where
  pub under : IsUnder d segment index
  pub address : HasAddress (segments_per_track d) segment index addr

-- .. or of no such sector
abbrev pub HasNoAddressIn : Deck → FloppyAddr → Type 0
HasNoAddressIn d addr = (segment index : ℕ) → HasAddressIn d addr segment index → ⊥

-- the mode has the call, and the address is that of a sector that the head has not passed
pub record Reaches (has_call : Mode → Bool) (d : Deck) (addr : FloppyAddr) (segment index : ℕ) : Type 0 where
  pub mode : has_call d.mode ≡ true
  pub sector : HasAddressIn d addr segment index

-- there is no such sector
abbrev pub ReachesNone : (has_call : Mode → Bool) → Deck → FloppyAddr → Type 0
ReachesNone has_call d addr = (segment index : ℕ) → Reaches has_call d addr segment index → ⊥

-- the mode formats, and the tape streams
pub record IsFormatting (d : Deck) : Type 0 where
  pub mode : is_format d.mode ≡ true
  pub streams : is_streaming d.motion ≡ true

-- the head has passed a sector of the segment under it
abbrev pub passed : Deck → (index : ℕ) → Deck
passed d index = record d { motion = Streaming (index + 1) }

-- the head passed the sector, and the tape was only read
pub record Passes {T : Type 0} (m : Meaning T) (old new : DeckAndTape T) (index : ℕ) : Type 0 where
  pub deck : new.deck ≡ passed old.deck index
  pub tape : Done m old.tape new.tape []

-- the drive is in what it was in, and the tape was only read
pub record Stays {T : Type 0} (m : Meaning T) (old new : DeckAndTape T) : Type 0 where
  pub deck : new.deck ≡ old.deck
  pub tape : Done m old.tape new.tape []

-- what a sector call answers: what it came to, or why the drive refuses it; or that the tape failed
abbrev pub Answer : Type 0 → Type 0
Answer A = Result (Result A FdcFault) TapeFailed

-- why the drive refuses it, as the answer of such a call
abbrev pub refused_by : {A : Type 0} → Result FdcFault TapeFailed → Answer A
refused_by (Ok fault) = Ok (Err fault)
refused_by (Err failed) = Err failed

-- A read of a sector under the head, by its answer: the bytes that it held before are in into, those after in now.
abbrev pub Finds : {T : Type 0} (m : Meaning T) (old new : DeckAndTape T) (segment index : ℕ) (into now : List ℕ) →
    Answer (Unit {0}) → Type 0
Finds m old new segment index into now (Ok (Ok done)) =
    Passes m old new index × Tells m old.tape (λ c. view_at c segment index ≡ view.Holds now)
Finds m old new segment index into now (Ok (Err NoAddress)) =
    Stays m old new × (now ≡ into) × Tells m old.tape (λ c. view_at c segment index ≡ view.Blank)
Finds m old new segment index into now (Ok (Err Protected)) = ⊥
Finds m old new segment index into now (Ok (Err Unreadable)) =
    Passes m old new index × (now ≡ into)
    × Tells m old.tape (λ c. (view_at c segment index ≡ view.Lost) ⊎ (view_at c segment index ≡ view.Defect))
Finds m old new segment index into now (Err failed) =
    (new.deck ≡ old.deck) × Broke m old.tape new.tape [] × (now ≡ into)

-- a sector that was formatted, or is a defect
abbrev pub IsFormatted : {T : Type 0} (m : Meaning T) (tape : T) (segment index : ℕ) → Type 0
IsFormatted m tape segment index = Tells m tape (λ c. ¬ (view_at c segment index ≡ view.Blank))

-- A write to a sector under the head, by its answer. A protected cartridge is only read, to learn whether the sector
-- was formatted.
abbrev pub Writes : {T : Type 0} (m : Meaning T) (old new : DeckAndTape T) (segment index : ℕ) (bytes : List ℕ) → (protected : Bool) →
    Answer (Unit {0}) → Type 0
Writes m old new segment index bytes false (Ok (Ok done)) =
    (new.deck ≡ passed old.deck index) × Done m old.tape new.tape (write_sector segment index bytes ∷ [])
    × IsFormatted m old.tape segment index
Writes m old new segment index bytes true (Ok (Ok done)) = ⊥
Writes m old new segment index bytes false (Ok (Err NoAddress)) =
    (new.deck ≡ old.deck) × Done m old.tape new.tape (write_sector segment index bytes ∷ [])
    × Tells m old.tape (λ c. view_at c segment index ≡ view.Blank)
Writes m old new segment index bytes true (Ok (Err NoAddress)) =
    Stays m old new × Tells m old.tape (λ c. view_at c segment index ≡ view.Blank)
Writes m old new segment index bytes false (Ok (Err Protected)) = ⊥
Writes m old new segment index bytes true (Ok (Err Protected)) =
    Stays m old new × IsFormatted m old.tape segment index
Writes m old new segment index bytes protected (Ok (Err Unreadable)) = ⊥
Writes m old new segment index bytes false (Err failed) =
    (new.deck ≡ old.deck) × Broke m old.tape new.tape (write_sector segment index bytes ∷ [])
Writes m old new segment index bytes true (Err failed) =
    (new.deck ≡ old.deck) × Broke m old.tape new.tape []

-- ---- several sectors of the segment under the head, by words with bit i for sector i

-- the last of the asked sectors below a number that isn't blank
unfoldable pub last_passed : (asked blank below : ℕ) → Option ℕ
last_passed asked blank zero = None
last_passed asked blank (suc index) =
    if is_lost asked index && not (is_lost blank index) then Some index else last_passed asked blank index

abbrev pub motion_behind : (last : Option ℕ) → Motion → Motion
motion_behind None motion = motion
motion_behind (Some index) motion = Streaming (index + 1)

-- the head has passed the last of the asked sectors that isn't blank; where there is none, it has passed nothing
abbrev pub passed_all : Deck → (asked blank : ℕ) → Deck
passed_all d asked blank = record d { motion = motion_behind (last_passed asked blank 32) d.motion }

-- no asked sector is below the first
abbrev pub AreFrom : (index asked : ℕ) → Type 0
AreFrom index asked = asked % 2 ^ index ≡ 0

-- the wanted sectors were read, and the head has passed them
pub record PassesAll {T : Type 0} (m : Meaning T) (old new : DeckAndTape T) (segment index wanted : ℕ) (into now : List (List ℕ))
    (read : SectorsRead) : Type 0 where
  pub first : AreFrom index wanted
  pub deck : new.deck ≡ passed_all old.deck wanted read.blank
  pub tape : Done m old.tape new.tape []
  pub reads : Tells m old.tape (λ c. ReadsSectors wanted read.good read.blank (view_at c segment) into now)
  pub kept : KeepsOthers read.good into now

-- A read of the wanted sectors of the segment under the head, from an index on, by its answer: the entries that were held
-- before are in into, those after in now.
abbrev pub FindsSectors : {T : Type 0} (m : Meaning T) (old new : DeckAndTape T) (segment index wanted : ℕ) (into now : List (List ℕ)) →
    Answer SectorsRead → Type 0
FindsSectors m old new segment index wanted into now (Ok (Ok read)) = PassesAll m old new segment index wanted into now read
FindsSectors m old new segment index wanted into now (Ok (Err NoAddress)) = (new ≡ old) × (now ≡ into) × ¬ (AreFrom index wanted)
FindsSectors m old new segment index wanted into now (Ok (Err Protected)) = ⊥
FindsSectors m old new segment index wanted into now (Ok (Err Unreadable)) = ⊥
FindsSectors m old new segment index wanted into now (Err failed) =
    (new.deck ≡ old.deck) × Broke m old.tape new.tape [] × (now ≡ into)

-- the sectors were written that aren't blank, and the head has passed them
pub record WritesAll {T : Type 0} (m : Meaning T) (old new : DeckAndTape T) (segment index written : ℕ) (from : List (List ℕ))
    (blank : ℕ) : Type 0 where
  pub first : AreFrom index written
  pub deck : new.deck ≡ passed_all old.deck written blank
  pub tape : Done m old.tape new.tape (WriteSectors segment (chosen written from) ∷ [])
  pub blanks : Tells m old.tape (λ c. AreBlank written blank (view_at c segment))

-- A write to sectors of the segment under the head, from an index on, by its answer. A protected cartridge refuses it as a
-- write of the first of them.
abbrev pub WritesSectors : {T : Type 0} (m : Meaning T) (old new : DeckAndTape T) (segment index written : ℕ) (from : List (List ℕ)) →
    (protected : Bool) → Answer ℕ → Type 0
WritesSectors m old new segment index written from false (Ok (Ok blank)) = WritesAll m old new segment index written from blank
WritesSectors m old new segment index written from true (Ok (Ok blank)) = ⊥
WritesSectors m old new segment index written from false (Ok (Err NoAddress)) = (new ≡ old) × ¬ (AreFrom index written)
WritesSectors m old new segment index written from false (Ok (Err Protected)) = ⊥
WritesSectors m old new segment index written from false (Ok (Err Unreadable)) = ⊥
WritesSectors m old new segment index written from false (Err failed) =
    (new.deck ≡ old.deck) × Broke m old.tape new.tape (WriteSectors segment (chosen written from) ∷ [])
WritesSectors m old new segment index written from true (Ok (Err fault)) = Writes m old new segment index [] true (Ok (Err fault))
WritesSectors m old new segment index written from true (Err failed) = Writes m old new segment index [] true (Err failed)

-- A format of the segment under the head, by its answer: the head moves on.
abbrev pub Formats : {T : Type 0} (m : Meaning T) (old new : DeckAndTape T) → Answer (Unit {0}) → Type 0
Formats m old new (Ok (Ok done)) =
    (new.deck ≡ run_on old.deck) × Done m old.tape new.tape (FormatSegment (segment_of old.deck) ∷ [])
Formats m old new (Ok (Err NoAddress)) = ⊥
Formats m old new (Ok (Err Protected)) = ⊥
Formats m old new (Ok (Err Unreadable)) = ⊥
Formats m old new (Err failed) =
    (new.deck ≡ old.deck) × Broke m old.tape new.tape (FormatSegment (segment_of old.deck) ∷ [])
