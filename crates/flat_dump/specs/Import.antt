-- How an import ended (this project's own).
use Rattle.std.specs.Prelude.{◌≡◌, ℕ, ◌+◌, ◌*◌, ◌≤◌, ◌⊎◌, true, List, [], length, min, sum_by, Option, Some, None, IfSome, Result, Ok}
use Rattle.std.specs.Prelude.{Err}
use Rattle.qic_base.specs.Cartridge.{IsLength}
use Rattle.qic_base.specs.Tape.{Rose}
use Rattle.qic_base.specs.Disk as disks
use Rattle.qic_base.specs.Source as sources
use Rattle.qic_base.specs.SourceCalls.{Gave}
use Rattle.qic_base.specs.declared.tape.SectorView.{SectorView}
use Rattle.qic_base.specs.declared.tape.SectorView.TheVariants.{Blank, Defect, Lost, Holds}
use Rattle.cart_image.specs.Image.{cartridge_of}
use Rattle.flat_dump.specs.Imported.{imported_by}
use Rattle.flat_dump.specs.declared.importing.Imported.{Imported}
use Rattle.flat_dump.specs.declared.importing.ImportError.{ImportError}
use Rattle.qic_base.specs.Source.{IsInput}
use Rattle.flat_dump.specs.declared.importing.ImportError.TheVariants as error

-- ---- lengths

-- A dump of this length is one of n segments per track: where those are asked for, it may be shorter.
abbrev pub IsDumpOf : (asked : Option ℕ) → (bytes n : ℕ) → Type 0
IsDumpOf None bytes n = bytes ≡ 917504 * n
IsDumpOf (Some m) bytes n = (n ≡ m) × (bytes ≤ 917504 * m)

-- it is none of any cartridge
abbrev pub IsNoDump : (asked : Option ℕ) → (bytes : ℕ) → Type 0
IsNoDump asked bytes = (n : ℕ) → IsLength n → IsDumpOf asked bytes n → ⊥

-- the length of the longest dump: of those segments per track that are asked for, or of 246
abbrev pub limit : (asked : Option ℕ) → ℕ
limit None = 917504 * 246
limit (Some m) = 917504 * m

-- a number of bytes that are read: of a dump that is longer than that, one more
abbrev pub counted : (asked : Option ℕ) (bytes : ℕ) → ℕ
counted asked bytes = min bytes (limit asked + 1)

-- ---- sectors

abbrev pub lost_bit : SectorView → ℕ
lost_bit Blank = 0
lost_bit Defect = 0
lost_bit Lost = 1
lost_bit (Holds bytes) = 0

-- the number of lost sectors
abbrev pub lost_count : List SectorView → ℕ
lost_count views = sum_by lost_bit views

-- ---- the outside

-- from old to new the source gave no more bytes than these
abbrev pub GaveFew : {S : Type 0} (s : sources.Meaning S) (old new : S) (most : ℕ) → Type 0
GaveFew s old new most = (bytes : List ℕ) × (length bytes ≤ most) × Gave s old new bytes

-- an empty file, in which nothing is pending
pub record IsEmpty {D : Type 0} (m : disks.Meaning D) (disk : D) : Type 0 where
  pub told : IfSome (m.told disk) (λ bytes. bytes ≡ [])
  pub settled : disks.IsSettled m disk

abbrev pub IsNoImage : (bytes : List ℕ) → Type 0
IsNoImage bytes = cartridge_of bytes ≡ None

-- the bytes are the image of the dump that the source told
pub record IsImageOf {S : Type 0} (s : sources.Meaning S) (source : S) (mask : List ℕ) (asked : Option ℕ) (bytes : List ℕ) : Type 0 where
  pub dump : List ℕ
  pub told : IsInput (s.left source) dump
  pub n : ℕ
  pub long : IsLength n
  pub fits : IsDumpOf asked (length dump) n
  pub shows : cartridge_of bytes ≡ Some (imported_by dump mask n)

abbrev pub IsNoneOrWhole : {S : Type 0} (s : sources.Meaning S) (source : S) (mask : List ℕ) (asked : Option ℕ) (bytes : List ℕ) → Type 0
IsNoneOrWhole s source mask asked bytes = IsNoImage bytes ⊎ IsImageOf s source mask asked bytes

-- A crash at any moment from old up to new leaves such bytes, where the disk tells its crashes.
abbrev pub CrashesLeave : {D : Type 0} (m : disks.Meaning D) (old new : D) → (List ℕ → Type 0) → Type 0
CrashesLeave m old new P = (left : List ℕ) → m.tells_stops old ≡ true → m.left_since new (m.moment old) left → P left

-- The count of the source's faults, where an import ends with this error: a read of the dump failed, or none did.
abbrev pub CountsBy : (before now : ℕ) → ImportError → Type 0
CountsBy before now (error.Length bytes) = now ≡ before
CountsBy before now error.Source = Rose before now
CountsBy before now error.Disk = now ≡ before

-- The file was emptied and no call of the disk failed, or the disk failed at that and tells such bytes.
abbrev pub Cleared : {D : Type 0} (m : disks.Meaning D) (old new : D) → (List ℕ → Type 0) → Type 0
Cleared m old new P = (IsEmpty m new × (m.faults new ≡ m.faults old)) ⊎ (Rose (m.faults old) (m.faults new) × IfSome (m.told new) P)

-- ---- how it ended

-- The file is the image of the dump, with these segments and lost sectors. No call of the disk failed.
pub record WasImported {S D : Type 0} (s : sources.Meaning S) (m : disks.Meaning D) (source : S) (old new : D) (mask : List ℕ)
    (asked : Option ℕ) (imported : Imported) : Type 0 where
  pub dump : List ℕ
  pub told : IsInput (s.left source) dump
  pub n : ℕ
  pub long : IsLength n
  pub fits : IsDumpOf asked (length dump) n
  pub shows : IfSome (m.told new) (λ bytes. cartridge_of bytes ≡ Some (imported_by dump mask n))
  pub stood : m.faults new ≡ m.faults old
  pub settled : disks.IsSettled m new
  pub segments : imported.segments ≡ 28 * n
  pub lost : imported.lost ≡ lost_count (imported_by dump mask n).views
  pub crashes : CrashesLeave m old new (IsNoneOrWhole s source mask asked)

-- The dump is none of a cartridge, and so many of its bytes were read: all of them, or one more than the longest has.
pub record WasRefused {S D : Type 0} (s : sources.Meaning S) (m : disks.Meaning D) (source : S) (old new : D) (asked : Option ℕ)
    (bytes : ℕ) : Type 0 where
  pub dump : List ℕ
  pub told : IsInput (s.left source) dump
  pub none : IsNoDump asked (length dump)
  pub count : bytes ≡ counted asked (length dump)
  pub cleared : Cleared m old new IsNoImage
  pub crashes : CrashesLeave m old new IsNoImage

-- A read of the dump failed.
pub record SourceBroke {S D : Type 0} (s : sources.Meaning S) (m : disks.Meaning D) (source ended : S) (old new : D) : Type 0 where
  pub cause : Rose (s.faults source) (s.faults ended)
  pub cleared : Cleared m old new IsNoImage
  pub crashes : CrashesLeave m old new IsNoImage

-- A call of the disk failed. Where the clearing failed, too, the file is no image, or the whole one: its first byte may
-- stand there by a write that failed.
pub record DiskBroke {S D : Type 0} (s : sources.Meaning S) (m : disks.Meaning D) (source : S) (old new : D) (mask : List ℕ)
    (asked : Option ℕ) : Type 0 where
  pub failed : D
  pub cause : Rose (m.faults old) (m.faults failed)
  pub later : m.faults failed ≤ m.faults new
  pub cleared : Cleared m failed new (IsNoneOrWhole s source mask asked)
  pub crashes : CrashesLeave m old new (IsNoneOrWhole s source mask asked)

abbrev pub Imports : {S D : Type 0} (s : sources.Meaning S) (m : disks.Meaning D) (source ended : S) (old new : D) (mask : List ℕ)
    (asked : Option ℕ) → Result Imported ImportError → Type 0
Imports s m source ended old new mask asked (Ok imported) = WasImported s m source old new mask asked imported
Imports s m source ended old new mask asked (Err (error.Length bytes)) = WasRefused s m source old new asked bytes
Imports s m source ended old new mask asked (Err error.Source) = SourceBroke s m source ended old new
Imports s m source ended old new mask asked (Err error.Disk) = DiskBroke s m source old new mask asked
