-- Lists of writes to a segment, as steps of a tape (QIC-80-MC: parity behind the data; the lists are this project's
-- profile).
use Rattle.std.specs.Prelude.{ℕ, List, [], ◌∷◌, take, map, slice_index}
use Rattle.cartridge_spec.specs.Appending.{new_sectors}
use Rattle.cartridge_spec.specs.Says.{with_parity}
use Rattle.cartridge_spec.specs.Settling.{writes_of}
use Rattle.cartridge_spec.specs.Shape.{data_count, usable_places, sector_at}
use Rattle.cartridge_laws.specs.Segment.{sectors_of}
use Rattle.qic_base.specs.Step.{Step, WriteSectors}

-- ---- the usable sectors of a segment stand at the first places of a list of sectors

-- those of data: all usable ones but the last three
abbrev pub data_in : (usable : ℕ) → List (List ℕ) → List (List ℕ)
data_in usable sectors = take (data_count usable) sectors

-- the data and their parity
abbrev pub block_in : (usable : ℕ) → List (List ℕ) → List (List ℕ)
block_in usable sectors = with_parity (data_in usable sectors)

-- all usable sectors at once: the data and their parity
abbrev pub segment_writes : (segment usable : ℕ) → List (List ℕ) → List Step
segment_writes segment usable sectors = WriteSectors segment (new_sectors (usable_places usable) (block_in usable sectors)) ∷ []

-- the usable sectors at the places of a set, ascending
abbrev pub named_writes : (segment usable places : ℕ) → List (List ℕ) → List Step
named_writes segment usable places sectors =
    writes_of segment
    (map (λ place. slice_index (usable_places usable) place) (sectors_of places))
    (map (λ place. sector_at sectors place) (sectors_of places))
