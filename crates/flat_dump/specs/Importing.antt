-- How an import goes on (this project's own).
use Rattle.std.specs.Prelude.{◌≡◌, ℕ, ◌+◌, ◌*◌, ◌<◌, ◌≤◌, ◌⊎◌, List, []}
use Rattle.std.specs.Prelude.{◌++◌, drop, length, min, replicate, Option, Some, None, is_some, IsSome}
use Rattle.std.specs.Prelude.{true, Result, Ok, Err, slice_index, slice_index_or, slice_range}
use Rattle.std.specs.Option.{option_map}
use Rattle.qic_base.specs.Cartridge.{IsLength}
use Rattle.qic_base.specs.Tape.{Rose}
use Rattle.qic_base.specs.Disk as disks
use Rattle.qic_base.specs.Source as sources
use Rattle.qic_base.specs.declared.tape.SectorView.{SectorView}
use Rattle.qic_base.specs.declared.tape.SectorView.TheVariants.{Blank}
use Rattle.cart_image.specs.Image.{view_by}
use Rattle.cart_image.specs.Layout.{cell_len, head_len, made_head}
use Rattle.flat_dump.specs.Cells.{joined, lost_cell}
use Rattle.flat_dump.specs.Import.{CrashesLeave, IsDumpOf, IsNoDump, IsNoImage, IsNoneOrWhole, WasImported, counted, lost_count}
use Rattle.flat_dump.specs.Imported.{imported_view}
use Rattle.flat_dump.specs.Stops.{IsUnsigned}
use Rattle.flat_dump.specs.declared.importing.Copied.{Copied}
use Rattle.flat_dump.specs.declared.importing.Imported.{Imported}
use Rattle.flat_dump.specs.declared.importing.ImportError.{ImportError}
use Rattle.qic_base.specs.Source.{IsInput}
use Rattle.flat_dump.specs.declared.importing.ImportError.TheVariants as error

-- ---- the disk

-- Since first time went on. A crash now leaves such bytes, and each since then left such ones, where the disk tells its
-- bytes and its crashes.
pub record Stays {D : Type 0} (m : disks.Meaning D) (first now : D) (Now Since : List ℕ → Type 0) : Type 0 where
  pub tells : is_some (m.told now) ≡ is_some (m.told first)
  pub later : m.faults first ≤ m.faults now
  pub telling : m.tells_stops now ≡ m.tells_stops first
  pub clock : m.moment first ≤ m.moment now
  pub leaves : IsSome (m.told first) → (left : List ℕ) → m.may_leave now left → Now left
  pub since : CrashesLeave m first now Since

-- the file has these bytes, and is no image yet; no call of the disk failed
pub record Unfinished {D : Type 0} (m : disks.Meaning D) (first now : D) (file : List ℕ) : Type 0 where
  pub told : m.told now ≡ option_map (λ bytes. file) (m.told first)
  pub stood : m.faults now ≡ m.faults first
  pub stays : Stays m first now IsUnsigned IsNoImage

-- no call of the disk failed, and the file is no image yet
pub record StoodSince {D : Type 0} (m : disks.Meaning D) (first now : D) : Type 0 where
  pub stood : m.faults now ≡ m.faults first
  pub stays : Stays m first now IsNoImage IsNoImage

-- a call of the disk failed
pub record FailedSince {D : Type 0} (m : disks.Meaning D) (first now : D) (Now : List ℕ → Type 0) : Type 0 where
  pub cause : Rose (m.faults first) (m.faults now)
  pub stays : Stays m first now Now Now

-- the file was written on
abbrev pub Goes : {D T E : Type 0} (m : disks.Meaning D) (first now : D) (file : List ℕ) → Result T E → Type 0
Goes m first now file (Ok x) = Unfinished m first now file
Goes m first now file (Err e) = FailedSince m first now IsNoImage

-- no image, or just these bytes
abbrev pub IsNoneOr : (image bytes : List ℕ) → Type 0
IsNoneOr image bytes = IsNoImage bytes ⊎ (bytes ≡ image)

-- the file has these bytes, and nothing is pending; no call of the disk failed
pub record Finished {D : Type 0} (m : disks.Meaning D) (first now : D) (image : List ℕ) : Type 0 where
  pub told : m.told now ≡ option_map (λ bytes. image) (m.told first)
  pub stood : m.faults now ≡ m.faults first
  pub settled : disks.IsSettled m now
  pub since : CrashesLeave m first now (IsNoneOr image)

-- the head was written
abbrev pub Ends : {D T E : Type 0} (m : disks.Meaning D) (first now : D) (image : List ℕ) → Result T E → Type 0
Ends m first now image (Ok x) = Finished m first now image
Ends m first now image (Err e) = FailedSince m first now (IsNoneOr image)

-- ---- the file

-- the file with the room of a head alone
abbrev pub begun : List ℕ
begun = replicate head_len 0

-- a cell that is read as this view
pub record IsCell (cell : List ℕ) (view : SectorView) : Type 0 where
  pub size : length cell ≡ cell_len
  pub shows : view_by (slice_index cell 2) (slice_index cell 1) (slice_index cell 0) (slice_range cell 3 cell_len) ≡ view

-- behind the room of a head stand the cells of these sectors
pub record IsLaid (file : List ℕ) (views : List SectorView) : Type 0 where
  pub cells : List (List ℕ)
  pub bytes : file ≡ begun ++ joined cells
  pub size : length cells ≡ length views
  pub each : (q : ℕ) → q < length views → IsCell (slice_index_or cells q []) (slice_index_or views q Blank)

-- so many segments of lost sectors
abbrev pub lost_cells : (segments : ℕ) → List ℕ
lost_cells segments = joined (replicate (32 * segments) lost_cell)

-- .. with its head, which has the referenced mark
abbrev pub image_with : (n : ℕ) (file : List ℕ) → List ℕ
image_with n file = made_head true n ++ drop head_len file

-- ---- the dump

-- whether a byte is left of the source, as a number
abbrev pub CountsNext : {S E : Type 0} (s : sources.Meaning S) (source : S) → Result ℕ E → Type 0
CountsNext s source (Ok n) = (rest : List ℕ) × IsInput (s.left source) rest × (n ≡ min (length rest) 1)
CountsNext s source (Err e) = Unit {0}

-- The segments of the dump were copied, up to so many, and its bytes were counted, up to one more.
pub record WasCopied {S D : Type 0} (s : sources.Meaning S) (m : disks.Meaning D) (source : S) (old new : D) (mask : List ℕ) (most : ℕ)
    (copied : Copied) : Type 0 where
  pub dump : List ℕ
  pub told : IsInput (s.left source) dump
  pub bytes : copied.bytes ≡ min (length dump) (32768 * most + 1)
  pub within : copied.segments ≤ most
  pub needed : 32768 * copied.segments < length dump + 32768
  pub whole : copied.segments < most → length dump ≤ 32768 * copied.segments
  pub views : List SectorView
  pub size : length views ≡ 32 * copied.segments
  pub each : (q : ℕ) → q < 32 * copied.segments → slice_index_or views q Blank ≡ imported_view dump mask q
  pub lost : copied.lost ≡ lost_count views
  pub file : List ℕ
  pub laid : IsLaid file views
  pub goes : (first : D) → Unfinished m first old begun → Unfinished m first new file

abbrev pub Copies : {S D : Type 0} (s : sources.Meaning S) (m : disks.Meaning D) (source ended : S) (old new : D) (mask : List ℕ)
    (most : ℕ) → Result Copied ImportError → Type 0
Copies {D = D} s m source ended old new mask most (Ok copied) = WasCopied s m source old new mask most copied
Copies {D = D} s m source ended old new mask most (Err (error.Length bytes)) = ⊥
Copies {D = D} s m source ended old new mask most (Err error.Source) =
    Rose (s.faults source) (s.faults ended) × ((first : D) → Unfinished m first old begun → StoodSince m first new)
Copies {D = D} s m source ended old new mask most (Err error.Disk) = (first : D) → Unfinished m first old begun →
    FailedSince m first new IsNoImage

-- the segments per track of a dump of so many bytes, where it is one
abbrev pub Fits : (asked : Option ℕ) (bytes : ℕ) → Option ℕ → Type 0
Fits asked bytes None = IsNoDump asked bytes
Fits asked bytes (Some n) = IsLength n × IsDumpOf asked bytes n

-- ---- the image

-- The dump is none of a cartridge, and so many of its bytes were read.
pub record IsRefused {S D : Type 0} (s : sources.Meaning S) (m : disks.Meaning D) (source : S) (old new : D) (asked : Option ℕ)
    (bytes : ℕ) : Type 0 where
  pub dump : List ℕ
  pub told : IsInput (s.left source) dump
  pub none : IsNoDump asked (length dump)
  pub count : bytes ≡ counted asked (length dump)
  pub since : StoodSince m old new

-- how the writing of an image ended
abbrev pub Fills : {S D : Type 0} (s : sources.Meaning S) (m : disks.Meaning D) (source ended : S) (old new : D) (mask : List ℕ)
    (asked : Option ℕ) → Result Imported ImportError → Type 0
Fills s m source ended old new mask asked (Ok imported) = WasImported s m source old new mask asked imported
Fills s m source ended old new mask asked (Err (error.Length bytes)) = IsRefused s m source old new asked bytes
Fills s m source ended old new mask asked (Err error.Source) = Rose (s.faults source) (s.faults ended) × StoodSince m old new
Fills s m source ended old new mask asked (Err error.Disk) = FailedSince m old new (IsNoneOrWhole s source mask asked)
