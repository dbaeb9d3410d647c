-- The laws of the cells of an exported cartridge, as facts (this project's own).
use Rattle.std.specs.Prelude.{ℕ, ◌≡◌, ◌*◌, ◌+◌, ◌<◌, List, Option, Some}
use Rattle.cartridge_spec.specs.Header.{Header}
use Rattle.cartridge_spec.specs.HeaderCopies.{HasHeader}
use Rattle.cartridge_spec.specs.Says.{cells_of}
use Rattle.cartridge_spec.specs.Shape.{mask_at}
use Rattle.cartridge_spec.specs.Table.{Entry}
use Rattle.cartridge_spec.specs.TableSegment.{CanBeRead}
use Rattle.cartridge_spec.specs.Volumes.{Plain, Stands, entries_of}
use Rattle.flat_dump.specs.Imported.{brought_back, brought_view}
use Rattle.qic_base.specs.Cartridge.{Cartridge, view_at}
use Rattle.qic_base.specs.CartridgeTerms.{IsCartridge}
use Rattle.dump_spec.specs.Answers.{Known, IsKnown, header_area}
use Rattle.dump_spec.specs.Cells.{cells_in}
use Rattle.dump_spec.specs.Dump.{sector_view}
use Rattle.dump_spec.specs.declared.asked.Command.{Command}
use Rattle.salvage_laws.specs.Exported.{exported, plainly, HidesNoOther, IsReadAs, IsUncompressed}

-- a sector of the dump is read as it is on the cartridge, lost where it holds nothing
abbrev pub SectorsAreViews : Type 0
SectorsAreViews =
    (c : Cartridge) (sure : Option (List ℕ)) (command : Command) (known : Known) (segment index : ℕ) → IsCartridge c →
    IsKnown (exported c sure) (plainly command) known → segment < 28 * c.info.segments_per_track → index < 32 →
    sector_view known.dump (32 * segment + index) ≡ brought_view (view_at c segment index)

-- so the cells of a segment are those of the cartridge
abbrev pub CellsAreCells : Type 0
CellsAreCells =
    (c : Cartridge) (sure : Option (List ℕ)) (command : Command) (known : Known) (segment : ℕ) → IsCartridge c →
    IsKnown (exported c sure) (plainly command) known → segment < 28 * c.info.segments_per_track →
    cells_in known.dump known.layout segment ≡ cells_of (brought_back c) segment (known.layout.masks segment)

-- the header that is found is the one in force, and the masks of segments are those of its map
abbrev pub HeaderIsInForce : Type 0
HeaderIsInForce =
    (c : Cartridge) (sure : Option (List ℕ)) (command : Command) (known : Known) (area : List (List ℕ)) → IsCartridge c →
    IsKnown (exported c sure) (plainly command) known → HasHeader c area → HidesNoOther c → header_area known ≡ Some area

abbrev pub MasksAreOfMap : Type 0
MasksAreOfMap =
    (c : Cartridge) (sure : Option (List ℕ)) (command : Command) (known : Known) (header : Header) (words : List ℕ)
    (table : List (List ℕ)) (entries : List Entry) (segment : ℕ) → IsReadAs c header words table entries →
    IsKnown (exported c sure) (plainly command) known → segment < 28 * c.info.segments_per_track →
    known.layout.masks segment ≡ mask_at words segment

-- a cartridge that stands for a plain one, whose table can be read, is read as that one
abbrev pub StandingIsReadAs : Type 0
StandingIsReadAs =
    (c : Cartridge) (plain : Plain) → IsCartridge c → Stands c plain → CanBeRead c →
    IsUncompressed plain.table_area (entries_of plain) →
    IsReadAs c plain.header plain.words plain.table_area (entries_of plain)
