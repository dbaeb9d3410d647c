-- The segments of a volume, and its parts in them (this project's own).
use Rattle.std.specs.Prelude.{ℕ, List, sum_by, length}
use Rattle.cartridge_spec.specs.Appending.{taken_by, free_segments}
use Rattle.cartridge_spec.specs.Shape.{mask_at, data_count}
use Rattle.cartridge_spec.specs.Says.{Written, cells_of}
use Rattle.cartridge_spec.specs.Volumes.{Part, Plain, entries_of}
use Rattle.qic_base.specs.Cartridge.{Cartridge}

-- the sectors of data that these segments carry
abbrev pub sectors_in : (words segments : List ℕ) → ℕ
sectors_in words segments = sum_by (λ s. data_count (mask_at words s)) segments

-- the segment was written with its part
abbrev pub PartStands : Cartridge → (words : List ℕ) → Part → Type 0
PartStands c words part = Written (cells_of c part.segment (mask_at words part.segment)) part.sectors

-- the segments that a new volume of these bytes takes
abbrev pub new_segments : Plain → (bytes : List ℕ) → List ℕ
new_segments plain bytes =
    taken_by plain.words (length bytes) (free_segments plain.words (entries_of plain))
