-- A file as a sink: where no write failed, its bytes get longer by what it takes (this project's own).
use Rattle.std.specs.Prelude.{◌≡◌, ◌==◌, ◌≤◌, ◌<◌, ◌+◌, ◌-◌, ◌^◌, ◌++◌, ◌⊎◌, Bool, true}
use Rattle.std.specs.Prelude.{false, ℕ, List, [], length, take, Option, Some, None, IfSome}
use Rattle.std.specs.Option.{option_map, option_and_then}
use Rattle.qic_base.specs.Disk as disks
use Rattle.qic_base.specs.Sink.{Meaning}
use Rattle.qic_base.specs.Tape.{Rose}
use Rattle.file_streams.specs.declared.sink.FileSink.{FileSink}

-- the file, if there is one
abbrev pub file_of : {D : Type 0} → FileSink D → Option D
file_of m = m.disk

-- up to where it was written
abbrev pub place_of : {D : Type 0} → FileSink D → ℕ
place_of m = m.at

-- its bytes; None where there is no file, or it doesn't tell them
abbrev pub bytes_of : {D : Type 0} → disks.Meaning D → FileSink D → Option (List ℕ)
bytes_of d m = option_and_then d.told m.disk

-- whether it holds no byte, where it tells its bytes; where there is no file nothing is held
abbrev pub HoldsNothing : {D : Type 0} → disks.Meaning D → Bool → Option D → Type 0
HoldsNothing d empty None = empty ≡ true
HoldsNothing d empty (Some disk) = IfSome (d.told disk) (λ bytes. empty ≡ (length bytes == 0))

-- the place is the end of the bytes
abbrev pub IsEnd : ℕ → Option (List ℕ) → Type 0
IsEnd at told = IfSome told (λ bytes. at ≡ length bytes)

-- what is written next goes behind the last byte
abbrev pub IsAtEnd : {D : Type 0} → disks.Meaning D → FileSink D → Type 0
IsAtEnd d m = IsEnd m.at (bytes_of d m)

-- the bytes, longer by a part
abbrev pub longer_by : List ℕ → Option (List ℕ) → Option (List ℕ)
longer_by part told = option_map (λ bytes. bytes ++ part) told

-- ---- what the disk holds and how often it failed, whether a write failed or not

-- these bytes, and then any
abbrev pub Begins : (told : Option (List ℕ)) → List ℕ → Type 0
Begins told front = (rest : List ℕ) × (told ≡ Some (front ++ rest))

-- A disk that tells its bytes, and that loses nothing that it took, has the bytes below the place as it had them, the part
-- behind them, and then any bytes.
abbrev pub KeepsFront : {D : Type 0} (d : disks.Meaning D) (old new : D) (at : ℕ) (part : List ℕ) → Type 0
KeepsFront d old new at part =
    (bytes : List ℕ) → d.tells_stops old ≡ false → d.told old ≡ Some bytes → at ≤ length bytes → Begins (d.told new) (take at bytes ++ part)

-- no u64 counts twice as many bytes as stand before this place
abbrev pub IsVast : (place : ℕ) → Type 0
IsVast place = 2 ^ 63 ≤ place

-- a piece was written at the place
pub record PieceTook {D : Type 0} (d : disks.Meaning D) (old new : D) (at : ℕ) (part : List ℕ) : Type 0 where
  pub telling : d.tells_stops new ≡ d.tells_stops old
  pub kept : KeepsFront d old new at part
  pub stood : d.faults new ≡ d.faults old

-- the writing of one failed: a call of the disk did; no file is so long that it could be the place
pub record PieceBroke {D : Type 0} (d : disks.Meaning D) (old new : D) (at : ℕ) : Type 0 where
  pub telling : d.tells_stops new ≡ d.tells_stops old
  pub kept : KeepsFront d old new at []
  pub failed : Rose (d.faults old) (d.faults new) ⊎ IsVast at

-- From old on a disk was written from one place up to the other, while the sink's count went from before to after.
pub record Grew {D : Type 0} (d : disks.Meaning D) (old new : D) (at end : ℕ) (part : List ℕ) (before after : ℕ) : Type 0 where
  pub place : end ≡ at + length part
  pub telling : d.tells_stops new ≡ d.tells_stops old
  pub kept : KeepsFront d old new at part
  -- no write failed, and no call of the disk
  pub stood : after ≡ before → after < 2 ^ 64 - 1 → d.faults new ≡ d.faults old
  -- one write failed, and one call of the disk did; no file is so long that it could be the other
  pub failed : after ≡ before + 1 → after < 2 ^ 64 - 1 → Rose (d.faults old) (d.faults new) ⊎ IsVast end

-- the same of a file, if there is one; where there is none no write fails
abbrev pub FileGrew : {D : Type 0} (d : disks.Meaning D) (old new : Option D) (at end : ℕ) (part : List ℕ) (before after : ℕ) → Type 0
FileGrew d (Some old) (Some new) at end part before after = Grew d old new at end part before after
FileGrew d None None at end part before after = (end ≡ at) × (after ≡ before)
FileGrew d old new at end part before after = ⊥

-- The part was taken. Where no write failed by then, and the file was written up to its end, it is longer by the part.
pub record Took {D : Type 0} (d : disks.Meaning D) (old : FileSink D) (part : List ℕ) (new : FileSink D) : Type 0 where
  pub later : old.faults ≤ new.faults
  pub ends : new.faults ≡ 0 → IsAtEnd d old → IsAtEnd d new
  pub longer : new.faults ≡ 0 → IsAtEnd d old → bytes_of d new ≡ longer_by part (bytes_of d old)
  -- and whatever failed
  pub file : FileGrew d old.disk new.disk old.at new.at part old.faults new.faults

abbrev pub sink_means : {D : Type 0} → disks.Meaning D → Meaning (FileSink D)
sink_means d = record { written = λ m. None; took = Took d; faults = λ m. m.faults }

-- nothing was written, and no call failed
pub record IsFresh {D : Type 0} (m : FileSink D) : Type 0 where
  pub begins : m.at ≡ 0
  pub whole : m.faults ≡ 0

-- nothing of it is pending
abbrev pub IsOnDisk : {D : Type 0} → disks.Meaning D → FileSink D → Type 0
IsOnDisk d m = IfSome m.disk (disks.IsSettled d)

-- of two files, ..
abbrev pub BothFiles : {D : Type 0} → (D → D → Type 0) → (old new : Option D) → Type 0
BothFiles Holds (Some old) (Some new) = Holds old new
BothFiles Holds old new = ⊥

-- .. or where there is none of both
abbrev pub OfFiles : {D : Type 0} → (D → D → Type 0) → (old new : Option D) → Type 0
OfFiles Holds None None = Unit {0}
OfFiles Holds old new = BothFiles Holds old new

-- this call was done on the disk, if there is one, and nothing else
pub record Called {D : Type 0} (d : disks.Meaning D) (step : disks.DiskStep) (old new : FileSink D) : Type 0 where
  pub place : new.at ≡ old.at
  pub count : new.faults ≡ old.faults
  pub disk : OfFiles (λ a b. disks.Stored d a b step) old.disk new.disk

-- the one disk failed in this call, and is the other then
abbrev pub BrokeIn : {D : Type 0} → disks.Meaning D → disks.DiskStep → (old new : Option D) → Type 0
BrokeIn d step old new = BothFiles (λ a b. disks.Failed d a b step) old new

-- the length of the file could not be had
abbrev pub LookBroke : {D : Type 0} → disks.Meaning D → (old new : FileSink D) → Type 0
LookBroke d old new = BrokeIn d disks.Look old.disk new.disk

-- A write before the sync failed, and the disk stays as it is; or the sync failed, before which none did.
abbrev pub SyncBroke : {D : Type 0} → disks.Meaning D → (old new : FileSink D) → Type 0
SyncBroke d old new =
    ((1 ≤ old.faults) × (new.disk ≡ old.disk)) ⊎ ((old.faults ≡ 0) × BrokeIn d disks.Sync old.disk new.disk)
