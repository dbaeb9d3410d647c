-- Parts of a script: its items, its faults, and the sectors that its lines wear (this project's own).
use Rattle.std.specs.Prelude.{ℕ, List, [], codes, Option, ◌≡◌, ◌≢◌, ◌<◌, ◌≤◌, ◌⊎◌}
use Rattle.cartridge_spec.specs.Volumes.{WearSpares, Plain}
use Rattle.cartridge_spec.specs.Table.{Entry}
use Rattle.command_spec.specs.Input.{EndsEarly, Item, most_items}
use Rattle.command_spec.specs.Lines.{place_line}
use Rattle.command_spec.specs.Script.{Did, LineDoes, Meeting, Meets, acts_on}
use Rattle.command_spec.specs.Several.{LinesLeave, OverInput}
use Rattle.command_spec.specs.declared.line.Line.{Line}
use Rattle.qic_base.specs.Acts.{Act}
use Rattle.qic_base.specs.Cartridge.{Cartridge, IsPlace}
use Rattle.command_spec.specs.declared.line.Line.TheVariants as line

-- a volume that was given back: its number, and its length in bytes
abbrev pub restored_line : (number bytes : ℕ) → List ℕ
restored_line number bytes = place_line (codes "restored") number bytes

-- what a stop in a script's lines leaves, over the input that is told, or some input of bytes where none is
abbrev pub SomeScripted : (told : Option (List ℕ)) → (words : List (List ℕ)) → (held left : Option Cartridge) → Type 0
SomeScripted told words held left = OverInput told (λ input. LinesLeave input words held left)

-- what an item does
abbrev pub ItemDoes : Cartridge → (words : List ℕ) → List Entry → Item → Did → Type 0
ItemDoes c words entries item did = LineDoes c words entries item.line item.bytes did

-- the acts in front of a fault in the line with this number, which begins these bytes: those of an append whose bytes end
-- early, and none where no line is read
abbrev pub FaultDoes : Cartridge → (words : List ℕ) → List Entry → (number : ℕ) → (rest : List ℕ) → List Act → Type 0
FaultDoes c words entries number rest acts =
    ((number ≤ most_items) × ((early : EndsEarly rest) × ((meeting : Meeting) × Meets c meeting
    × (acts ≡ acts_on c words entries early.name early.promised early.date early.bytes meeting))))
    ⊎ (((number ≤ most_items) → ¬ (EndsEarly rest)) × (acts ≡ []))

-- a sector that a line wears lies behind the table's segment
abbrev pub WearsBehind : Line → Type 0
WearsBehind (line.Lose segment sector) = sector < 32 → 3 ≤ segment
WearsBehind other = Unit {0}

-- it wears no sector of the table's segment
abbrev pub LineSparesTable : Line → Type 0
LineSparesTable (line.Lose segment sector) = sector < 32 → segment ≢ 2
LineSparesTable other = Unit {0}

-- a sector that a line wears spares the header and the table, on the cartridge as it then stands
abbrev pub LineSpares : Cartridge → Plain → Line → Type 0
LineSpares c plain (line.Lose segment sector) =
    IsPlace c.info.segments_per_track segment sector → WearSpares c plain segment sector
LineSpares c plain other = Unit {0}
