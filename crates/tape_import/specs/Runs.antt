-- How a run of the program ends (this project's own).
use Rattle.std.specs.Prelude.{◌≡◌, ◌≢◌, ◌+◌, ◌⊎◌, ℕ, List, [], replicate, Option, Some, None, IfSome, Result, Ok, Err}
use Rattle.qic_base.specs.Tape.{Rose}
use Rattle.qic_base.specs.Disk as disks
use Rattle.qic_base.specs.Disk.{Look}
use Rattle.qic_base.specs.Sink as sinks
use Rattle.qic_base.specs.SinkCalls as sink_calls
use Rattle.qic_base.specs.Source as sources
use Rattle.cart_image.specs.Layout.{resize}
use Rattle.cart_image.specs.Run as steps
use Rattle.rescue_map.specs.Laws.{most_words}
use Rattle.rescue_map.specs.Reads.{ReadFault, ReadWhole}
use Rattle.flat_dump.specs.Import.{GaveFew, IsEmpty, DiskBroke, SourceBroke, WasImported, WasRefused, limit}
use Rattle.flat_dump.specs.declared.importing.Imported.{Imported}
use Rattle.tape_import.specs.Texts.{imported_text}
use Rattle.tape_import.specs.declared.status.ImportStatus.{ImportStatus}
use Rattle.tape_import.specs.declared.status.ImportStatus.TheVariants as status

-- a map, where there is one; a dump, the file of the image, and the sink of what is told
pub record Ends (M S D K : Type 0) : Type 0 where
  pub chart : Option M
  pub dump : S
  pub image : D
  pub told : K

-- ---- the file

-- The file was looked at, and is empty.
pub record FoundEmpty {D : Type 0} (d : disks.Meaning D) (old new : D) : Type 0 where
  pub looked : disks.Stored d old new Look
  pub empty : IsEmpty d new

-- The file was looked at, and has a byte.
pub record FoundMore {D : Type 0} (d : disks.Meaning D) (old new : D) : Type 0 where
  pub looked : disks.Stored d old new Look
  pub more : IfSome (d.told old) (λ bytes. bytes ≢ [])

-- whether the file is empty, by the answer
abbrev pub Found : {D : Type 0} (d : disks.Meaning D) (old new : D) → Result (Unit {0}) ImportStatus → Type 0
Found d old new (Ok done) = FoundEmpty d old new
Found d old new (Err status.NotEmpty) = FoundMore d old new
Found d old new (Err status.DiskFault) = disks.Failed d old new Look
Found d old new (Err other) = ⊥

-- The file was emptied, or a fault of the disk broke that off.
abbrev pub Emptied : {D : Type 0} (d : disks.Meaning D) (old new : D) → Type 0
Emptied d old new = steps.Ran d old new (resize 0) ⊎ steps.Halted d old new (resize 0)

-- ---- the map

-- each sector is in the mask: all 32 bits of each word are set
abbrev pub IsFull : List ℕ → Type 0
IsFull mask = mask ≡ replicate most_words 0xFFFFFFFF

-- the mask of the sectors that were rescued: as the map says, which was read whole, or all where there is none
abbrev pub IsMaskBy : {M : Type 0} (m : sources.Meaning M) (old new : Option M) (mask : List ℕ) → Type 0
IsMaskBy m None None mask = IsFull mask
IsMaskBy m None (Some new) mask = ⊥
IsMaskBy m (Some old) None mask = ⊥
IsMaskBy m (Some old) (Some new) mask = ReadWhole m old new mask

-- a map has its first fault in this line
abbrev pub HasFault : {M : Type 0} (m : sources.Meaning M) (old : Option M) (line : ℕ) → Type 0
HasFault m None line = ⊥
HasFault m (Some old) line = ReadFault m old line

-- a read of a map failed
abbrev pub MapBroke : {M : Type 0} (m : sources.Meaning M) (old new : Option M) → Type 0
MapBroke m None new = ⊥
MapBroke m (Some old) None = ⊥
MapBroke m (Some old) (Some new) = Rose (m.faults old) (m.faults new)

-- how the making of the mask ended
abbrev pub Masks : {M : Type 0} (m : sources.Meaning M) (old new : Option M) (mask : List ℕ) → Result (Unit {0}) ImportStatus → Type 0
Masks m old new mask (Ok done) = IsMaskBy m old new mask
Masks m old new mask (Err (status.MapFault line)) = HasFault m old line
Masks m old new mask (Err status.SourceFault) = MapBroke m old new
Masks m old new mask (Err other) = ⊥

-- ---- the dump

-- The image was made, and that was told.
pub record WasTold {S D K : Type 0} (s : sources.Meaning S) (d : disks.Meaning D) (k : sinks.Meaning K) (mask : List ℕ) (asked : Option ℕ)
    (dump : S) (old new : D) (from to : K) : Type 0 where
  pub imported : Imported
  pub was : WasImported s d dump old new mask asked imported
  pub told : sinks.Wrote k from to (imported_text imported)

-- The image was made, and a fault of the sink broke off what is told of that; then the file was emptied.
pub record WasTakenBack {S D K : Type 0} (s : sources.Meaning S) (d : disks.Meaning D) (k : sinks.Meaning K) (mask : List ℕ)
    (asked : Option ℕ) (dump : S) (old new : D) (from to : K) : Type 0 where
  pub imported : Imported
  pub made : D
  pub was : WasImported s d dump old made mask asked imported
  pub broke : sink_calls.BrokeOff k from to (imported_text imported)
  pub emptied : Emptied d made new

-- how the import into an empty file ended, by a mask
abbrev pub Filled : {S D K : Type 0} (s : sources.Meaning S) (d : disks.Meaning D) (k : sinks.Meaning K) (mask : List ℕ) (asked : Option ℕ)
    (dump ended : S) (old new : D) (from to : K) → ImportStatus → Type 0
Filled s d k mask asked dump ended old new from to status.Done = WasTold s d k mask asked dump old new from to
Filled s d k mask asked dump ended old new from to status.SinkFault =
    WasTakenBack s d k mask asked dump old new from to
Filled s d k mask asked dump ended old new from to (status.Length bytes) =
    WasRefused s d dump old new asked bytes × (to ≡ from)
Filled s d k mask asked dump ended old new from to status.SourceFault = SourceBroke s d dump ended old new × (to ≡ from)
Filled s d k mask asked dump ended old new from to status.DiskFault =
    DiskBroke s d dump old new mask asked × (to ≡ from)
Filled s d k mask asked dump ended old new from to other = ⊥

-- ---- a run

-- The file was found empty, the mask was made, and the dump was imported by it. No more was read of the dump than the longest
-- has, and one byte.
pub record Imports {M S D K : Type 0} (m : sources.Meaning M) (s : sources.Meaning S) (d : disks.Meaning D) (k : sinks.Meaning K)
    (asked : Option ℕ) (old new : Ends M S D K) (how : ImportStatus) : Type 0 where
  pub seen : D
  pub empty : FoundEmpty d old.image seen
  pub mask : List ℕ
  pub rescued : IsMaskBy m old.chart new.chart mask
  pub few : GaveFew s old.dump new.dump (limit asked + 1)
  pub filled : Filled s d k mask asked old.dump new.dump seen new.image old.told new.told how

-- The file was found empty, and nothing of it changed; nor was the dump read, or anything told.
pub record LeftEmpty {M S D K : Type 0} (d : disks.Meaning D) (old new : Ends M S D K) : Type 0 where
  pub empty : FoundEmpty d old.image new.image
  pub dump : new.dump ≡ old.dump
  pub told : new.told ≡ old.told

-- How a run over opened files ended.
abbrev pub Runs : {M S D K : Type 0} (m : sources.Meaning M) (s : sources.Meaning S) (d : disks.Meaning D) (k : sinks.Meaning K)
    (asked : Option ℕ) (old new : Ends M S D K) → ImportStatus → Type 0
Runs m s d k asked old new status.NotEmpty =
    FoundMore d old.image new.image × (new ≡ record old { image = new.image })
Runs m s d k asked old new (status.MapFault line) = LeftEmpty d old new × HasFault m old.chart line
Runs m s d k asked old new status.SourceFault =
    (LeftEmpty d old new × MapBroke m old.chart new.chart) ⊎ Imports m s d k asked old new status.SourceFault
Runs m s d k asked old new status.DiskFault =
    (disks.Failed d old.image new.image Look × (new ≡ record old { image = new.image }))
    ⊎ Imports m s d k asked old new status.DiskFault
Runs m s d k asked old new status.Usage = ⊥
Runs m s d k asked old new status.NoMemory = ⊥
Runs m s d k asked old new status.NoImage = ⊥
Runs m s d k asked old new status.NoMap = ⊥
Runs m s d k asked old new other = Imports m s d k asked old new other
