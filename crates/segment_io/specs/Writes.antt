-- What the calls that write a segment write (this project's own). The usable sectors of a segment
-- stand at the first places of a workspace.
use Rattle.std.specs.Prelude.{ℕ, List, take}
use Rattle.qic_base.specs.Step.{NewSector}
use Rattle.cartridge_spec.specs.Appending.{new_sectors}
use Rattle.cartridge_spec.specs.Shape.{usable_places, usable_count}

-- all usable sectors, which stand at the first places
abbrev pub first_sectors : (usable : ℕ) → List (List ℕ) → List NewSector
first_sectors usable sectors = new_sectors (usable_places usable) (take (usable_count usable) sectors)
