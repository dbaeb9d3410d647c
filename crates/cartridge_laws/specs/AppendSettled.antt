-- What a done append leaves where sectors of the table's segment take no write, as facts.
use Rattle.std.specs.Prelude.{◌≡◌, ℕ, ◌<◌, true, List, length, false, Option, Some, IsSomeAnd}
use Rattle.cartridge_laws.specs.AppendLaws.{IsAppendable, IsReadyFor, new_table, new_volume, append_steps_of, with_content, MayAppendTo}
use Rattle.cartridge_laws.specs.AppendSteps.{IsNamed}
use Rattle.cartridge_laws.specs.AppendWrites.{AreWrites, IsFree, IsOfSector}
use Rattle.cartridge_laws.specs.MountBlocks.{HoldsPart}
use Rattle.cartridge_laws.specs.Table.{IsSoundList, last_end}
use Rattle.cartridge_spec.specs.Appending.{has_room, Content}
use Rattle.cartridge_spec.specs.Volumes.{volume_bytes, Plain, Stands, entries_of, volume_length}
use Rattle.cartridge_spec.specs.Formatting.{StandsCleanly}
use Rattle.cartridge_spec.specs.HeaderCopies.{last_segment}
use Rattle.cartridge_spec.specs.TableSegment.{TableIs}
use Rattle.cartridge_spec.specs.Shape.{IsArea, IsLive}
use Rattle.cartridge_spec.specs.Mounting.{settled, Mounts, mounted_as}
use Rattle.cartridge_spec.specs.Settling.{changed_by}
use Rattle.cartridge_spec.specs.Table.{Shows}
use Rattle.qic_base.specs.Cartridge.{Cartridge, view_at}
use Rattle.qic_base.specs.CartridgeTerms.{IsCartridge}
use Rattle.qic_base.specs.Step.{Step, Torn}

-- ---- before an append

-- The table can be read as these data, and each sector of its segment that takes what is written to it holds its part of
-- them or their parity. The others are defects, or were never formatted.
pub record IsSettledFor (c : Cartridge) (area : List (List ℕ)) : Type 0 where
  pub table : TableIs c area
  pub live : (i : ℕ) → i < 32 → IsLive (view_at c 2 i) → HoldsPart c area i

-- a cartridge that is not protected is so once it is settled, ..
abbrev pub SettledIsSettledFor : Type 0
SettledIsSettledFor =
    (c : Cartridge) (area : List (List ℕ)) → TableIs c area → c.info.protected ≡ false → IsSettledFor (settled area c) area

-- .. and the volume has room on it as before
abbrev pub SettledMayAppendTo : Type 0
SettledMayAppendTo =
    (c : Cartridge) (plain : Plain) (content : Content) → MayAppendTo c plain content →
    TableIs c plain.table_area → MayAppendTo (settled plain.table_area c) plain content

-- a cartridge that is ready, with all sectors of the table's segment readable, is both
abbrev pub ReadyIsSettledFor : Type 0
ReadyIsSettledFor =
    (c : Cartridge) (plain : Plain) (content : Content) → IsReadyFor c plain content →
    MayAppendTo c plain content × IsSettledFor c plain.table_area

-- whatever is written behind the last volume, stopped or not, leaves both
abbrev pub FreeWritesLeaveSettled : Type 0
FreeWritesLeaveSettled =
    (c : Cartridge) (plain : Plain) (content : Content) (steps : List Step) (left : Option Cartridge) →
    MayAppendTo c plain content → IsSettledFor c plain.table_area →
    AreWrites (IsFree (last_end (entries_of plain))) steps → AreWrites IsOfSector steps → Torn steps (Some c) left →
    IsSomeAnd left (λ d. MayAppendTo d plain content × IsSettledFor d plain.table_area)

-- ---- the new table, and the new volume

-- the new data are 29 sectors, which show the old list and the new entry behind it, in order
abbrev pub DoneTableShows : Type 0
DoneTableShows =
    (c : Cartridge) (plain : Plain) (content : Content) → MayAppendTo c plain content →
    IsArea (new_table plain content) × Shows (new_table plain content) (entries_of (with_content plain content))
    × IsSoundList (last_segment c) (entries_of (with_content plain content))

-- the new volume has just the bytes that were appended
abbrev pub DoneBytes : Type 0
DoneBytes =
    (c : Cartridge) (plain : Plain) (content : Content) → MayAppendTo c plain content →
    (volume_length plain.words (new_volume plain content).entry ≡ length content.bytes)
    × (volume_bytes plain.words (new_volume plain content) ≡ content.bytes)

-- ---- all steps done

-- the cartridge stands for the plain one with the volume, ..
abbrev pub DoneStands : Type 0
DoneStands =
    (c : Cartridge) (plain : Plain) (content : Content) → MayAppendTo c plain content →
    IsSettledFor c plain.table_area → Stands (changed_by (append_steps_of plain content) c) (with_content plain content)

-- .. is mounted as that, ..
abbrev pub DoneMounts : Type 0
DoneMounts =
    (c : Cartridge) (plain : Plain) (content : Content) → MayAppendTo c plain content → IsSettledFor c plain.table_area →
    Mounts (changed_by (append_steps_of plain content) c) (mounted_as (with_content plain content))

-- .. and is settled for the new table
abbrev pub DoneIsSettledFor : Type 0
DoneIsSettledFor =
    (c : Cartridge) (plain : Plain) (content : Content) → MayAppendTo c plain content → IsSettledFor c plain.table_area →
    IsSettledFor (changed_by (append_steps_of plain content) c) (new_table plain content)

-- header copies that formatting may begin over stay so
abbrev pub DoneIsClean : Type 0
DoneIsClean =
    (c : Cartridge) (plain : Plain) (content : Content) → MayAppendTo c plain content →
    IsSettledFor c plain.table_area → StandsCleanly c plain →
    StandsCleanly (changed_by (append_steps_of plain content) c) (with_content plain content)

-- what is left is a cartridge
abbrev pub DoneIsCartridge : Type 0
DoneIsCartridge =
    (c : Cartridge) (plain : Plain) (content : Content) → MayAppendTo c plain content →
    IsCartridge (changed_by (append_steps_of plain content) c)

-- its marks are as they were, and so is each sector that the steps don't name
abbrev pub DoneTouchesOnly : Type 0
DoneTouchesOnly =
    (c : Cartridge) (plain : Plain) (content : Content) → MayAppendTo c plain content →
    ((changed_by (append_steps_of plain content) c).info ≡ c.info) × ((segment sector : ℕ) → sector < 32 →
    (IsNamed plain content.bytes segment sector → ⊥) →
    view_at (changed_by (append_steps_of plain content) c) segment sector ≡ view_at c segment sector)

-- one may append to it again what has room behind the volume
abbrev pub DoneMayAppendTo : Type 0
DoneMayAppendTo =
    (c : Cartridge) (plain : Plain) (content more : Content) → MayAppendTo c plain content → IsSettledFor c plain.table_area →
    has_room (with_content plain content) (length more.bytes) ≡ true → IsAppendable more →
    MayAppendTo (changed_by (append_steps_of plain content) c) (with_content plain content) more
