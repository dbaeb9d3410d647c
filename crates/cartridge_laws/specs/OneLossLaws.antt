-- What is read of the table's segment where an append wrote it and one sector more is lost, as facts.
use Rattle.std.specs.Prelude.{◌≢◌, ℕ, ◌<◌, ◌≤◌, List, slice_index, ◌≡◌, length, ◌⊎◌, Option, Some, IsSomeAnd, false}
use Rattle.cartridge_laws.specs.AppendBetween.{IsWhole, IsBegun, IsTurned, Between}
use Rattle.cartridge_laws.specs.AppendLaws.{new_table, volume_steps, list_steps, with_content, IsReadyFor, MayAppendTo}
use Rattle.cartridge_laws.specs.MountBlocks.{HoldsPart}
use Rattle.cartridge_laws.specs.OneLossTables.{DifferInOne, IsLastInUse}
use Rattle.cartridge_spec.specs.Appending.{Content}
use Rattle.cartridge_spec.specs.Code.{IsCodeBlock}
use Rattle.cartridge_spec.specs.Formatting.{StandsCleanly}
use Rattle.cartridge_spec.specs.Shape.{IsArea, sector_at}
use Rattle.cartridge_spec.specs.TableSegment.{TableIs, IsTableLive, LosesOne, ChangesTableAlone, LosesOneAlone}
use Rattle.cartridge_spec.specs.Mounting.{settled, ComesBackAs}
use Rattle.cartridge_spec.specs.Says.{with_parity}
use Rattle.cartridge_spec.specs.Settling.{changed_by}
use Rattle.cartridge_laws.specs.Slots.{slot_sector}
use Rattle.cartridge_spec.specs.Volumes.{Plain, Stands}
use Rattle.qic_base.specs.Cartridge.{Cartridge}
use Rattle.qic_base.specs.CartridgeTerms.{IsCartridge}
use Rattle.qic_base.specs.Step.{Torn}

-- ---- two tables that differ in one sector of data

-- in each column in which that sector differs, each sector of parity differs too
abbrev pub ParityBytesDiffer : Type 0
ParityBytesDiffer =
    (old new : List (List ℕ)) (changed parity column : ℕ) → DifferInOne old new changed →
    29 ≤ parity → parity < 32 → column < 1024 →
    slice_index (sector_at old changed) column ≢ slice_index (sector_at new changed) column →
    slice_index (sector_at (with_parity old) parity) column ≢ slice_index (sector_at (with_parity new) parity) column

-- so each sector of parity differs
abbrev pub ParityDiffers : Type 0
ParityDiffers =
    (old new : List (List ℕ)) (changed parity : ℕ) → DifferInOne old new changed → 29 ≤ parity → parity < 32 →
    sector_at (with_parity old) parity ≢ sector_at (with_parity new) parity

-- a code block that holds the sectors of a table outside three places at most is the table's
abbrev pub NearBlockIsTables : Type 0
NearBlockIsTables =
    (area block : List (List ℕ)) (first second third : ℕ) → IsArea area → IsCodeBlock block → length block ≡ 32 →
    ((i : ℕ) → i < 32 → i ≢ first → i ≢ second → i ≢ third → sector_at block i ≡ sector_at (with_parity area) i) →
    block ≡ with_parity area

-- ---- one sector more lost

-- until the changed sector of data is new, the old data are read
abbrev pub BeforeReadsOldStill : Type 0
BeforeReadsOldStill =
    (c d : Cartridge) (old : List (List ℕ)) (changed lost : ℕ) → IsArea old → changed < 29 → IsWhole c old ⊎ IsBegun c old changed →
    LosesOne c d lost → TableIs d old

-- from then on, where a sector of parity is lost, the new ones are
abbrev pub LostParityReadsNew : Type 0
LostParityReadsNew =
    (c d : Cartridge) (old new : List (List ℕ)) (lost : ℕ) → IsArea new → IsTurned c old new → 29 ≤ lost → LosesOne c d lost →
    TableIs d new

-- where a sector of data is lost, the old ones are read until the first sector of parity is new, and where the changed sector
-- itself is lost, also while the second one is old, ..
abbrev pub LostDataReadsOld : Type 0
LostDataReadsOld =
    (c d : Cartridge) (old new : List (List ℕ)) (changed lost : ℕ) → DifferInOne old new changed → IsLastInUse new changed →
    (turned : IsTurned c old new) → lost < 29 → LosesOne c d lost →
    (turned.turn ≡ 29) ⊎ ((turned.turn ≡ 30) × HoldsPart c old 30 × (lost ≡ changed)) →
    TableIs d old

-- .. and else the new ones
abbrev pub LostDataReadsNew : Type 0
LostDataReadsNew =
    (c d : Cartridge) (old new : List (List ℕ)) (changed lost : ℕ) → DifferInOne old new changed → IsLastInUse new changed →
    (turned : IsTurned c old new) → lost < 29 → LosesOne c d lost →
    30 ≤ turned.turn → (turned.turn ≡ 30 → HoldsPart c old 30 → lost ≢ changed) →
    TableIs d new

-- in each state between the two tables one of them is read
abbrev pub OneLossReadsEither : Type 0
OneLossReadsEither =
    (c d : Cartridge) (old new : List (List ℕ)) (changed lost : ℕ) → DifferInOne old new changed → IsLastInUse new changed →
    Between c old new changed → LosesOne c d lost → TableIs d old ⊎ TableIs d new

-- ---- an append

-- the table before it and the one behind it differ in the sector of the new slot alone, and that is the last one with a used slot
abbrev pub AppendChangesOneSector : Type 0
AppendChangesOneSector =
    (c : Cartridge) (plain : Plain) (content : Content) → MayAppendTo c plain content →
    DifferInOne plain.table_area (new_table plain content) (slot_sector (length plain.volumes))
    × IsLastInUse (new_table plain content) (slot_sector (length plain.volumes))

-- where it was stopped among the writes of the table, and one sector more of the table's segment is lost, one of the two is read
abbrev pub StoppedAppendReadsEither : Type 0
StoppedAppendReadsEither =
    (c d : Cartridge) (plain : Plain) (content : Content) (left : Option Cartridge) →
    IsReadyFor c plain content → d ≡ changed_by (volume_steps plain content) c → Torn (list_steps plain content) (Some d) left →
    IsSomeAnd left (λ e. (f : Cartridge) (lost : ℕ) → LosesOne e f lost →
    TableIs f plain.table_area ⊎ TableIs f (new_table plain content))

-- and where all its writes were done, and one sector of the table's segment is lost, the table with the volume is read
abbrev pub DoneAppendReadsNew : Type 0
DoneAppendReadsNew =
    (c e : Cartridge) (plain : Plain) (content : Content) → IsReadyFor c plain content →
    e ≡ changed_by (list_steps plain content) (changed_by (volume_steps plain content) c) →
    (f : Cartridge) (lost : ℕ) → LosesOne e f lost → TableIs f (new_table plain content)

-- a cartridge that differs from one that stands in the table's segment alone, and says that one's data of the table, comes back
-- as that one, ..
abbrev pub TableAloneComesBack : Type 0
TableAloneComesBack =
    (c d : Cartridge) (plain : Plain) → Stands c plain → ChangesTableAlone c d → TableIs d plain.table_area → ComesBackAs d plain

-- so does a settled cartridge, each sector of whose table's segment takes a write, where one of them is lost, ..
abbrev pub SettledComesBack : Type 0
SettledComesBack =
    (c : Cartridge) (plain : Plain) → IsCartridge c → Stands c plain → IsTableLive c → c.info.protected ≡ false →
    TableIs c plain.table_area →
    (f : Cartridge) (lost : ℕ) → LosesOneAlone (settled plain.table_area c) f lost → ComesBackAs f plain

-- .. with header copies that formatting may begin over where they were so
abbrev pub TableAloneIsClean : Type 0
TableAloneIsClean =
    (c d : Cartridge) (plain : Plain) → StandsCleanly c plain → ChangesTableAlone c d → TableIs d plain.table_area →
    d.info.protected ≡ false → StandsCleanly (settled plain.table_area d) plain

-- so where an append was stopped among the writes of the table, and one sector more of the table's segment is lost and nothing
-- else, it comes back as the plain one without the volume, or as that with it
abbrev pub StoppedAppendComesBack : Type 0
StoppedAppendComesBack =
    (c d : Cartridge) (plain : Plain) (content : Content) (left : Option Cartridge) →
    IsReadyFor c plain content → d ≡ changed_by (volume_steps plain content) c → Torn (list_steps plain content) (Some d) left →
    IsSomeAnd left (λ e. (f : Cartridge) (lost : ℕ) → LosesOneAlone e f lost →
    ComesBackAs f plain ⊎ ComesBackAs f (with_content plain content))

-- and where all its writes were done, as the one with it
abbrev pub DoneAppendComesBack : Type 0
DoneAppendComesBack =
    (c e : Cartridge) (plain : Plain) (content : Content) → IsReadyFor c plain content →
    e ≡ changed_by (list_steps plain content) (changed_by (volume_steps plain content) c) →
    (f : Cartridge) (lost : ℕ) → LosesOneAlone e f lost → ComesBackAs f (with_content plain content)
