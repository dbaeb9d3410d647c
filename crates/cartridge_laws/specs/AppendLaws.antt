-- What an append leaves, done or stopped, as facts.
use Rattle.std.specs.Prelude.{ℕ, List, ◌≡◌, ◌^◌, ◌<◌, true, length, All, false, ◌⊎◌, ◌++◌, [], ◌∷◌, drop, nat_le, if◌then◌else◌, ◌*◌, take}
use Rattle.std.specs.Prelude.{Option, Some, IsSomeAnd}
use Rattle.cartridge_laws.specs.AppendBetween.{IsWhole, IsBegun, IsTurned, Between}
use Rattle.cartridge_laws.specs.AppendSteps.{volume_writes, list_writes, append_steps, writes_into, IsNamed}
use Rattle.cartridge_laws.specs.AppendWrites.{AreWrites, IsFree, KeepsTo, IsOfSector}
use Rattle.cartridge_laws.specs.Shape.{Carries}
use Rattle.cartridge_spec.specs.Appending.{has_room, free_segments, part_writes, in_sectors, Content, with_bytes, appended_volume}
use Rattle.cartridge_spec.specs.Volumes.{Plain, Volume, Stands, entries_of}
use Rattle.cartridge_laws.specs.Table.{last_end}
use Rattle.cartridge_laws.specs.Slots.{slot_sector}
use Rattle.cartridge_spec.specs.Formatting.{IsLabel, StandsCleanly}
use Rattle.cartridge_spec.specs.TableSegment.{TableIs, IsTableLive}
use Rattle.cartridge_spec.specs.Shape.{IsArea, mask_at, data_count, capacity}
use Rattle.cartridge_spec.specs.Mounting.{settled, Mounts, mounted_as}
use Rattle.cartridge_spec.specs.Settling.{changed_by, settling_steps}
use Rattle.qic_base.specs.Cartridge.{Cartridge, view_at}
use Rattle.qic_base.specs.CartridgeTerms.{IsCartridge}
use Rattle.qic_base.specs.Step.{Step, Torn}

-- the new volume, the plain cartridge with it, and its data of the table
abbrev pub new_volume : Plain → Content → Volume
new_volume plain content = appended_volume plain content.name content.date content.bytes

abbrev pub with_content : Plain → Content → Plain
with_content plain content = with_bytes plain content.name content.date content.bytes

abbrev pub new_table : Plain → Content → List (List ℕ)
new_table plain content = (with_content plain content).table_area

-- the writes of the volume's segments, those of the table, and all of them
abbrev pub volume_steps : Plain → Content → List Step
volume_steps plain content = volume_writes plain content.bytes (new_volume plain content)

abbrev pub list_steps : Plain → Content → List Step
list_steps plain content = list_writes plain (new_volume plain content)

abbrev pub append_steps_of : Plain → Content → List Step
append_steps_of plain content = append_steps plain content.bytes (new_volume plain content)

-- ---- before an append

-- a name of 44 bytes, a date word, and bytes
pub record IsAppendable (content : Content) : Type 0 where
  pub label : IsLabel content.name
  pub word : content.date < 2 ^ 32
  pub bytes : All (λ b. b < 256) content.bytes

-- The cartridge stands for a plain one, and a volume of this name, this date word and these bytes has room.
pub record MayAppendTo (c : Cartridge) (plain : Plain) (content : Content) : Type 0 where
  pub cartridge : IsCartridge c
  pub stands : Stands c plain
  pub room : has_room plain (length content.bytes) ≡ true
  pub appendable : IsAppendable content

-- .. and its table is settled with all sectors readable
pub record IsReadyFor (c : Cartridge) (plain : Plain) (content : Content) : Type 0 where
  pub may : MayAppendTo c plain content
  pub whole : IsWhole c plain.table_area

-- The cartridge is so once its table is settled: it stands for a plain one, the volume has room, the table can be read, and each
-- sector of the table's segment takes what is written to it.
pub record MayAppend (c : Cartridge) (plain : Plain) (content : Content) : Type 0 where
  pub may : MayAppendTo c plain content
  pub table : TableIs c plain.table_area
  pub live : IsTableLive c
  pub unprotected : c.info.protected ≡ false

abbrev pub SettledIsReady : Type 0
SettledIsReady =
    (c : Cartridge) (plain : Plain) (content : Content) → MayAppend c plain content →
    IsReadyFor (settled plain.table_area c) plain content

-- ---- a state between two tables

-- it is read as the old data until the changed sector of data is new, and as the new data from then on
abbrev pub BeforeReadsOld : Type 0
BeforeReadsOld =
    (c : Cartridge) (old : List (List ℕ)) (changed : ℕ) → IsArea old → changed < 29 → IsWhole c old ⊎ IsBegun c old changed →
    TableIs c old

abbrev pub TurnedReadsNew : Type 0
TurnedReadsNew = (c : Cartridge) (old new : List (List ℕ)) → IsArea new → IsTurned c old new → TableIs c new

-- ---- the volume's writes, segment by segment

-- they are those of its bytes into the free segments, ..
abbrev pub VolumeStepsByBytes : Type 0
VolumeStepsByBytes =
    (plain : Plain) (content : Content) → volume_steps plain content
    ≡ writes_into plain.words (free_segments plain.words (entries_of plain)) content.bytes

-- .. which are those of the first segment, and then those of the bytes behind it into the others, where there are any
abbrev pub WritesBySegment : Type 0
WritesBySegment =
    (words : List ℕ) (segment : ℕ) (segments bytes : List ℕ) → Carries (mask_at words segment) →
    writes_into words (segment ∷ segments) bytes
    ≡ part_writes words (record { segment = segment; sectors = in_sectors (data_count (mask_at words segment)) bytes })
    ++ (if nat_le (length bytes) (capacity (mask_at words segment)) then []
    else writes_into words segments (drop (capacity (mask_at words segment)) bytes))

-- sectors hold no byte behind those that they have room for
abbrev pub SectorsTakeTheirs : Type 0
SectorsTakeTheirs = (count : ℕ) (bytes : List ℕ) → in_sectors count (take (1024 * count) bytes) ≡ in_sectors count bytes

-- ---- all steps done

-- the table's segment is whole
abbrev pub AppendedIsWhole : Type 0
AppendedIsWhole =
    (c : Cartridge) (plain : Plain) (content : Content) → IsReadyFor c plain content →
    IsWhole (changed_by (append_steps_of plain content) c) (new_table plain content)

-- it is ready for an append that has room behind it
abbrev pub AppendedIsReady : Type 0
AppendedIsReady =
    (c : Cartridge) (plain : Plain) (content more : Content) → IsReadyFor c plain content →
    has_room (with_content plain content) (length more.bytes) ≡ true → IsAppendable more →
    IsReadyFor (changed_by (append_steps_of plain content) c) (with_content plain content) more

-- ---- writes behind the volumes

-- whatever is written behind the last volume, stopped or not, leaves what stood, and the segments up to there as they were
abbrev pub FreeWritesStand : Type 0
FreeWritesStand =
    (c : Cartridge) (plain : Plain) (steps : List Step) (left : Option Cartridge) →
    Stands c plain → AreWrites (IsFree (last_end (entries_of plain))) steps → Torn steps (Some c) left →
    IsSomeAnd left (λ d. Stands d plain × KeepsTo (last_end (entries_of plain)) c d)

-- so may one append after it
abbrev pub FreeWritesLeaveReady : Type 0
FreeWritesLeaveReady =
    (c : Cartridge) (plain : Plain) (content : Content) (steps : List Step) (left : Option Cartridge) →
    IsReadyFor c plain content → AreWrites (IsFree (last_end (entries_of plain))) steps → AreWrites IsOfSector steps →
    Torn steps (Some c) left → IsSomeAnd left (λ d. IsReadyFor d plain content)

-- and header copies that formatting may begin over stay so
abbrev pub FreeWritesAreClean : Type 0
FreeWritesAreClean =
    (c : Cartridge) (plain : Plain) (steps : List Step) (left : Option Cartridge) →
    StandsCleanly c plain → AreWrites (IsFree (last_end (entries_of plain))) steps → Torn steps (Some c) left →
    IsSomeAnd left (λ d. StandsCleanly d plain)

-- whatever sectors are written, a cartridge is left
abbrev pub SectorWritesAreCartridge : Type 0
SectorWritesAreCartridge =
    (c : Cartridge) (steps : List Step) (left : Option Cartridge) →
    IsCartridge c → AreWrites IsOfSector steps → Torn steps (Some c) left → IsSomeAnd left IsCartridge

-- ---- a stop

-- a stop among the writes of the volume's segments leaves what stood, with its table whole
abbrev pub StoppedVolume : Type 0
StoppedVolume =
    (c : Cartridge) (plain : Plain) (content : Content) (left : Option Cartridge) →
    IsReadyFor c plain content → Torn (volume_steps plain content) (Some c) left →
    IsSomeAnd left (λ d. Stands d plain × IsWhole d plain.table_area)

-- a stop among the writes of the table leaves its segment between its two data
abbrev pub StoppedList : Type 0
StoppedList =
    (c d : Cartridge) (plain : Plain) (content : Content) (left : Option Cartridge) →
    IsReadyFor c plain content → d ≡ changed_by (volume_steps plain content) c → Torn (list_steps plain content) (Some d) left →
    IsSomeAnd left (λ e. Between e plain.table_area (new_table plain content) (slot_sector (length plain.volumes)))

-- a stop among all of them leaves what stood, or the plain cartridge with the volume
abbrev pub StoppedAppend : Type 0
StoppedAppend =
    (c : Cartridge) (plain : Plain) (content : Content) (left : Option Cartridge) →
    IsReadyFor c plain content → Torn (append_steps_of plain content) (Some c) left →
    IsSomeAnd left (λ d. Stands d plain ⊎ Stands d (with_content plain content))

-- so does a stop among the steps that settle the table and those that append behind them
abbrev pub StoppedFromTheStart : Type 0
StoppedFromTheStart =
    (c : Cartridge) (plain : Plain) (content : Content) (left : Option Cartridge) → MayAppend c plain content →
    Torn (settling_steps plain.table_area c ++ append_steps_of plain content) (Some c) left →
    IsSomeAnd left (λ d. Stands d plain ⊎ Stands d (with_content plain content))

-- no sector changes but those that the steps name; a stop may come behind the last of them
abbrev pub AppendTouchesOnly : Type 0
AppendTouchesOnly =
    (c : Cartridge) (plain : Plain) (content : Content) (left : Option Cartridge) →
    IsReadyFor c plain content → Torn (append_steps_of plain content) (Some c) left →
    IsSomeAnd left (λ d. (d.info ≡ c.info) × ((segment sector : ℕ) → sector < 32 →
    (IsNamed plain content.bytes segment sector → ⊥) → view_at d segment sector ≡ view_at c segment sector))

-- it is mounted as one of them
abbrev pub StoppedAppendMounts : Type 0
StoppedAppendMounts =
    (c : Cartridge) (plain : Plain) (content : Content) (left : Option Cartridge) →
    IsReadyFor c plain content → Torn (append_steps_of plain content) (Some c) left →
    IsSomeAnd left (λ d. Mounts d (mounted_as plain) ⊎ Mounts d (mounted_as (with_content plain content)))

-- header copies that formatting may begin over stay so
abbrev pub StoppedAppendIsClean : Type 0
StoppedAppendIsClean =
    (c : Cartridge) (plain : Plain) (content : Content) (left : Option Cartridge) →
    IsReadyFor c plain content → StandsCleanly c plain → Torn (append_steps_of plain content) (Some c) left →
    IsSomeAnd left (λ d. StandsCleanly d plain ⊎ StandsCleanly d (with_content plain content))

-- and it is a cartridge
abbrev pub StoppedAppendIsCartridge : Type 0
StoppedAppendIsCartridge =
    (c : Cartridge) (plain : Plain) (content : Content) (left : Option Cartridge) →
    IsReadyFor c plain content → Torn (append_steps_of plain content) (Some c) left → IsSomeAnd left IsCartridge
