-- A mounted cartridge that takes volumes, and what appends, worn sectors and scrubs leave of it, as facts (this project's own).
use Rattle.std.specs.Prelude.{◌≡◌, false, length, ℕ, ◌<◌, List, ◌++◌, ◌⊎◌, Option, Some, IsSomeAnd, true, ◌≤◌}
use Rattle.cartridge_laws.specs.AppendLaws.{IsAppendable, with_content}
use Rattle.cartridge_spec.specs.Appending.{Content, has_room}
use Rattle.cartridge_spec.specs.TableSegment.{TableIs, IsTableLive, LosesOneAlone}
use Rattle.cartridge_spec.specs.Mounting.{ComesBackAs}
use Rattle.cartridge_spec.specs.Settling.{settling_steps, changed_by}
use Rattle.cartridge_spec.specs.Volumes.{Plain, Stands, entries_of, worn}
use Rattle.command_spec.specs.Scrub.{ScrubsAs}
use Rattle.command_spec.specs.declared.depth.Depth.TheVariants.{Shallow}
use Rattle.qic_base.specs.Acts.{Act, steps_of}
use Rattle.qic_base.specs.Cartridge.{Cartridge}
use Rattle.qic_base.specs.CartridgeTerms.{IsCartridge}
use Rattle.qic_base.specs.Step.{Step, Torn}
use Rattle.cartridge_laws.specs.AppendLaws as appends

-- its table reads, and it is not protected
pub record IsOpen (c : Cartridge) (plain : Plain) : Type 0 where
  pub cartridge : IsCartridge c
  pub stands : Stands c plain
  pub table : TableIs c plain.table_area
  pub unprotected : c.info.protected ≡ false

-- .. and each sector of the table's segment takes what is written to it
pub record IsKept (c : Cartridge) (plain : Plain) : Type 0 where
  pub cartridge : IsCartridge c
  pub stands : Stands c plain
  pub table : TableIs c plain.table_area
  pub live : IsTableLive c
  pub unprotected : c.info.protected ≡ false

-- the steps that settle the table, and those that append the bytes behind them
abbrev pub settle_and_append : Cartridge → Plain → Content → List Step
settle_and_append c plain content = settling_steps plain.table_area c ++ appends.append_steps_of plain content

-- all of them done, the plain cartridge with the volume stands, and may be appended to again; a stop in them leaves that, or
-- what stood
pub record AppendKeeps (c : Cartridge) (plain : Plain) (content : Content) : Type 0 where
  pub done : IsKept (changed_by (settle_and_append c plain content) c) (with_content plain content)
  pub stopped : (left : Option Cartridge) → Torn (settle_and_append c plain content) (Some c) left →
      IsSomeAnd left (λ d. Stands d plain ⊎ Stands d (with_content plain content))

abbrev pub AppendsKeep : Type 0
AppendsKeep =
    (c : Cartridge) (plain : Plain) (content : Content) → IsKept c plain → IsAppendable content →
    has_room plain (length content.bytes) ≡ true → AppendKeeps c plain content

-- .. and a stop in them comes in the settling, or what it leaves is one of the two also where one sector of the table's segment is
-- lost besides, whichever it is, and nothing else
abbrev pub AppendsSurvive : Type 0
AppendsSurvive =
    (c : Cartridge) (plain : Plain) (content : Content) (left : Option Cartridge) → IsKept c plain →
    IsAppendable content → has_room plain (length content.bytes) ≡ true → Torn (settle_and_append c plain content) (Some c) left →
    Torn (settling_steps plain.table_area c) (Some c) left
    ⊎ IsSomeAnd left (λ d. (f : Cartridge) (lost : ℕ) → LosesOneAlone d f lost → ComesBackAs f plain
    ⊎ ComesBackAs f (with_content plain content))

-- .. and all of them done, it comes back so with the volume
abbrev pub AppendedSurvive : Type 0
AppendedSurvive =
    (c : Cartridge) (plain : Plain) (content : Content) (f : Cartridge) (lost : ℕ) → IsKept c plain →
    IsAppendable content → has_room plain (length content.bytes) ≡ true →
    LosesOneAlone (changed_by (settle_and_append c plain content) c) f lost → ComesBackAs f (with_content plain content)

-- ---- a worn sector, and a scrub

-- one behind the table
abbrev pub WearsKeep : Type 0
WearsKeep =
    (c : Cartridge) (plain : Plain) (segment sector : ℕ) → IsKept c plain → 3 ≤ segment → sector < 32 → IsKept (worn segment sector c) plain

abbrev pub ScrubsKeep : Type 0
ScrubsKeep =
    (c : Cartridge) (plain : Plain) (acts : List Act) → IsKept c plain → ScrubsAs Shallow c plain.words (entries_of plain) acts →
    IsKept (changed_by (steps_of acts) c) plain

-- ---- where sectors of the table's segment may take no write

-- an append, all of it done
abbrev pub AppendsLeaveOpen : Type 0
AppendsLeaveOpen =
    (c : Cartridge) (plain : Plain) (content : Content) → IsOpen c plain → IsAppendable content →
    has_room plain (length content.bytes) ≡ true →
    IsOpen (changed_by (settle_and_append c plain content) c) (with_content plain content)

-- a sector that is worn behind the table
abbrev pub WearsLeaveOpen : Type 0
WearsLeaveOpen =
    (c : Cartridge) (plain : Plain) (segment sector : ℕ) → IsOpen c plain → 3 ≤ segment → sector < 32 → IsOpen (worn segment sector c) plain

abbrev pub ScrubsLeaveOpen : Type 0
ScrubsLeaveOpen =
    (c : Cartridge) (plain : Plain) (acts : List Act) → IsOpen c plain → ScrubsAs Shallow c plain.words (entries_of plain) acts →
    IsOpen (changed_by (steps_of acts) c) plain
