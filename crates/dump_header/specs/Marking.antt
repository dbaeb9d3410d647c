-- Words in which bad sectors are marked, one for each segment: bit i is that of sector i (this project's own).
use Rattle.std.specs.Prelude.{ℕ, ◌≡◌, ◌⊎◌, ◌↔◌, ◌+◌, ◌<◌, Bool, true, List, [], ◌∷◌, Option, length, slice_index}
use Rattle.std.specs.Int.{bit_at}
use Rattle.cartridge_laws.specs.HeaderTerms.{byte_in}
use Rattle.qic_base.specs.Field.{little_endian}
use Rattle.dump_spec.specs.Lists.{BadSectors}
use Rattle.dump_spec.specs.Masks.{dump_mask}

-- the words are the masks of segments
abbrev pub AreMasks : (header : Option (List (List ℕ))) → List BadSectors → (masks : List ℕ) → Type 0
AreMasks header bad masks = (segment : ℕ) → segment < length masks → slice_index masks segment ≡ dump_mask header bad segment

abbrev pub HasBit : (words : List ℕ) (segment index : ℕ) → Type 0
HasBit words segment index = bit_at (slice_index words segment) index ≡ 1

-- the sectors that pass a test were marked, too, as far as the words go
abbrev pub MarksToo : (old new : List ℕ) → (ℕ → ℕ → Bool) → Type 0
MarksToo old new test = (segment index : ℕ) → segment < length old → index < 32 →
    (HasBit new segment index ↔ (HasBit old segment index ⊎ (test segment index ≡ true)))

-- the three bytes from one on, as a number
abbrev pub entry_in : List (List ℕ) → (at : ℕ) → ℕ
entry_in area at = little_endian (byte_in area at ∷ byte_in area (at + 1) ∷ byte_in area (at + 2) ∷ [])
