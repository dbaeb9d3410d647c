-- The settling of the volume table, and writes of sectors as steps (this project's profile).
use Rattle.std.specs.Prelude.{ℕ, List, [], ◌∷◌, Bool, filter, false, not, nat_lt, if◌then◌else◌, map, ◌++◌, ◌&&◌}
use Rattle.std.specs.List.{range_with_len}
use Rattle.std.specs.Str.{bytes_eq}
use Rattle.cartridge_spec.specs.Says.{with_parity}
use Rattle.cartridge_spec.specs.Shape.{sector_at, is_unreadable}
use Rattle.qic_base.specs.Cartridge.{Cartridge, view_at}
use Rattle.qic_base.specs.Step.{Step, write_sector, changed}
use Rattle.qic_base.specs.declared.tape.SectorView.{SectorView}
use Rattle.qic_base.specs.declared.tape.SectorView.TheVariants.{Holds}

-- one write for each of these sector indexes, of its bytes, in order
abbrev pub writes_of : ℕ → List ℕ → List (List ℕ) → List Step
writes_of segment (place ∷ places) (bytes ∷ sectors) = write_sector segment place bytes ∷ writes_of segment places sectors
writes_of segment places sectors = []

-- a cartridge that is there, after these steps
abbrev pub changed_by : List Step → Cartridge → Cartridge
changed_by [] c = c
changed_by (s ∷ ss) c = changed_by ss (changed s c)

-- the sector can be read, and holds these bytes
abbrev pub holds : SectorView → List ℕ → Bool
holds (Holds held) bytes = bytes_eq held bytes
holds view bytes = false

-- the sector can be read, and holds other bytes
abbrev pub holds_other : SectorView → List ℕ → Bool
holds_other view bytes = not (is_unreadable view) && not (holds view bytes)

-- some sectors of segment 2, with their parts of a block
abbrev pub block_writes : List (List ℕ) → (places : List ℕ) → List Step
block_writes block places = writes_of 2 places (map (sector_at block) places)

-- the sectors that are written where the table's data are these: first those of data that were left out of account,
-- then those of data that are unreadable, and then those of parity that are unreadable or differ, each ascending
abbrev pub settling_places : Cartridge → (area : List (List ℕ)) → List ℕ
settling_places c area =
    let part : ℕ → List ℕ = sector_at (with_parity area) in
    filter (λ i. if nat_lt i 29 then holds_other (view_at c 2 i) (part i) else false) (range_with_len 0 32)
    ++ filter (λ i. if nat_lt i 29 then is_unreadable (view_at c 2 i) else not (holds (view_at c 2 i) (part i))) (range_with_len 0 32)

-- the writes that settle the volume table, whose data are these: none on a protected cartridge
abbrev pub settling_steps : (area : List (List ℕ)) → Cartridge → List Step
settling_steps area c = if c.info.protected then [] else block_writes (with_parity area) (settling_places c area)
