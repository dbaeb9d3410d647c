-- What is known of a cartridge where one sector of the table's segment silently holds other bytes, as facts.
use Rattle.std.specs.Prelude.{◌≡◌, ◌≢◌, ◌⊎◌, ℕ, ◌<◌, List, Option, Some, IsSomeAnd}
use Rattle.cartridge_laws.specs.AppendBetween.{Between, IsWhole}
use Rattle.cartridge_laws.specs.AppendLaws.{IsReadyFor, append_steps_of}
use Rattle.cartridge_laws.specs.OneLossTables.{DifferInOne, IsLastInUse}
use Rattle.cartridge_laws.specs.TableCells.{last_used}
use Rattle.cartridge_laws.specs.WrongTableSector.{IsWrongInTable, RotsInTable}
use Rattle.cartridge_spec.specs.Appending.{Content}
use Rattle.cartridge_spec.specs.Header.{Header}
use Rattle.cartridge_spec.specs.HeaderCopies.{IsFormatted, last_segment}
use Rattle.cartridge_spec.specs.Mounting.{ComesBackAs, Mounted, Mounts}
use Rattle.cartridge_spec.specs.Shape.{IsArea}
use Rattle.cartridge_spec.specs.Table.{Entry, HasNoFault, Shows}
use Rattle.cartridge_spec.specs.TableSegment.{TableIs, table_cells}
use Rattle.cartridge_spec.specs.Volumes.{Plain, Stands, worn}
use Rattle.qic_base.specs.Cartridge.{Cartridge}
use Rattle.qic_base.specs.Step.{Torn}

-- ---- what a stop leaves

-- where one sector is wrong between two tables, it is the last one of parity, or the last one in use
abbrev pub BetweenHasWrong : Type 0
BetweenHasWrong =
    (c : Cartridge) (old new : List (List ℕ)) (changed wrong : ℕ) (area : List (List ℕ)) → DifferInOne old new changed →
    IsLastInUse new changed → Between c old new changed → IsWrongInTable c wrong area →
    (wrong ≡ 31) ⊎ (last_used (table_cells c) ≡ Some wrong)

-- so where an append was stopped
abbrev pub StoppedAppendHasWrong : Type 0
StoppedAppendHasWrong =
    (c : Cartridge) (plain : Plain) (content : Content) (left : Option Cartridge) →
    IsReadyFor c plain content → Torn (append_steps_of plain content) (Some c) left →
    IsSomeAnd left (λ d. (wrong : ℕ) (area : List (List ℕ)) → IsWrongInTable d wrong area →
    (wrong ≡ 31) ⊎ (last_used (table_cells d) ≡ Some wrong))

-- a wrong sector of data that is not the last one in use no stop in an append left
abbrev pub NoStopLeavesWrong : Type 0
NoStopLeavesWrong =
    (c d : Cartridge) (plain : Plain) (content : Content) (wrong : ℕ) (area : List (List ℕ)) →
    IsReadyFor c plain content → IsWrongInTable d wrong area → wrong < 29 → last_used (table_cells d) ≢ Some wrong →
    ¬ (Torn (append_steps_of plain content) (Some c) (Some d))

-- ---- once it is lost

-- of a sector of data: the table is that of the block of all others, ..
abbrev pub LostWrongIsSolved : Type 0
LostWrongIsSolved =
    (c : Cartridge) (wrong : ℕ) (area : List (List ℕ)) → wrong < 29 → IsWrongInTable c wrong area → TableIs (worn 2 wrong c) area

-- .. and the next mount gives it
abbrev pub LostWrongMounts : Type 0
LostWrongMounts =
    (c : Cartridge) (header_area : List (List ℕ)) (header : Header) (words : List ℕ) (wrong : ℕ) (area : List (List ℕ))
    (entries : List Entry) → wrong < 29 → IsWrongInTable c wrong area → IsFormatted c header_area header words →
    HasNoFault area (last_segment c) → Shows area entries → Mounts (worn 2 wrong c) (Mounted header words area entries)

-- ---- what rotted

-- one sector of a whole table's segment that silently holds other bytes is wrong, and the block of the others is the table's
abbrev pub RottenIsWrong : Type 0
RottenIsWrong =
    (c d : Cartridge) (area : List (List ℕ)) (wrong : ℕ) → IsArea area → IsWhole c area → RotsInTable c d area wrong →
    IsWrongInTable d wrong area

-- once it is lost the cartridge comes back as the one that stood
abbrev pub RottenComesBack : Type 0
RottenComesBack =
    (c d : Cartridge) (plain : Plain) (wrong : ℕ) → Stands c plain → IsWhole c plain.table_area → RotsInTable c d plain.table_area wrong →
    ComesBackAs (worn 2 wrong d) plain
