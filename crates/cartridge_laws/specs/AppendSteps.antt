-- The steps of an append: the writes of the new volume's segments, and then those of the table; and the sectors
-- that they name (this project's profile).
use Rattle.std.specs.Prelude.{ℕ, List, [], ◌∷◌, ◌++◌, length, ◌≡◌, ◌⊎◌, Contains}
use Rattle.cartridge_spec.specs.Appending.{part_writes, in_sectors, taken_by, table_writes}
use Rattle.cartridge_laws.specs.VolumeParts.{new_segments, sectors_in}
use Rattle.cartridge_laws.specs.TableCells.{table_places}
use Rattle.cartridge_laws.specs.Slots.{slot_sector}
use Rattle.cartridge_spec.specs.Shape.{mask_at, usable_places}
use Rattle.cartridge_spec.specs.Table.{table_with}
use Rattle.cartridge_spec.specs.Volumes.{Part, parts_of, Plain, Volume}
use Rattle.qic_base.specs.Step.{Step}

abbrev pub parts_writes : (words : List ℕ) → List Part → List Step
parts_writes words [] = []
parts_writes words (part ∷ parts) = part_writes words part ++ parts_writes words parts

-- the writes of a volume of these bytes, in as many of these carrying segments as it takes
abbrev pub writes_into : (words segments : List ℕ) → (bytes : List ℕ) → List Step
writes_into words segments bytes =
    let taken : List ℕ = taken_by words (length bytes) segments in
    parts_writes words (parts_of words taken (in_sectors (sectors_in words taken) bytes))

-- the writes of the volume's segments, ascending
abbrev pub volume_writes : Plain → (bytes : List ℕ) → Volume → List Step
volume_writes plain bytes volume =
    parts_writes plain.words (parts_of plain.words (new_segments plain bytes) volume.area)

-- the four writes of the table
abbrev pub list_writes : Plain → Volume → List Step
list_writes plain volume =
    table_writes (slot_sector (length plain.volumes)) (table_with plain.table_area (length plain.volumes) volume.entry)

-- all of them
abbrev pub append_steps : Plain → (bytes : List ℕ) → Volume → List Step
append_steps plain bytes volume = volume_writes plain bytes volume ++ list_writes plain volume

-- the sectors that they name: four of the table's segment, and all usable ones of the volume's segments
abbrev pub IsNamed : Plain → (bytes : List ℕ) → (segment sector : ℕ) → Type 0
IsNamed plain bytes segment sector =
    ((segment ≡ 2) × Contains (table_places (slot_sector (length plain.volumes))) sector)
    ⊎ (Contains (new_segments plain bytes) segment × Contains (usable_places (mask_at plain.words segment)) sector)
