-- The masks of segments as words (this project's own).
use Rattle.std.specs.Prelude.{ℕ, ◌≡◌, ◌<◌, List, length, slice_index}

-- the words are the masks of the first segments, one for each
abbrev pub HoldMasks : List ℕ → (masks : ℕ → ℕ) → Type 0
HoldMasks words masks = (segment : ℕ) → segment < length words → slice_index words segment ≡ masks segment
