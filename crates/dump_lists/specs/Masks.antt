-- The masks that lists are read into (this project's own).
use Rattle.std.specs.Prelude.{ℕ, ◌≡◌, ◌*◌, ◌<◌, ◌↔◌, ◌&&◌, nat_le, nat_lt, Bool, true, List, length, slice_index}
use Rattle.std.specs.Int.{bit_at}
use Rattle.std.specs.List.{list_any}
use Rattle.rescue_map.specs.Mask.{IsMarked}
use Rattle.dump_spec.specs.Lists.{Span, BadSectors, is_missing, is_listed_bad}
use Rattle.dump_lists.specs.Names.{BitRange}

-- a bit is 1 exactly where the segment is missing: that of segment 32 w + i is bit i of word w
abbrev pub IsMissingSet : List Span → (set : List ℕ) → Type 0
IsMissingSet spans set =
    (segment : ℕ) → segment < 32 * length set → (IsMarked set segment ↔ (is_missing spans segment ≡ true))

-- bit i of the word of a segment is 1 exactly where its sector i is named
abbrev pub IsBadSet : List BadSectors → (masks : List ℕ) → Type 0
IsBadSet bad masks = (segment index : ℕ) → segment < length masks → index < 32 →
    ((bit_at (slice_index masks segment) index ≡ 1) ↔ (is_listed_bad bad segment index ≡ true))

-- ---- of bits

abbrev pub is_in : BitRange → (bit : ℕ) → Bool
is_in range bit = nat_le range.first bit && nat_lt bit range.end

-- a bit is 1 exactly where one of these ranges has it
abbrev pub IsMaskOf : List BitRange → (mask : List ℕ) → Type 0
IsMaskOf ranges mask =
    (bit : ℕ) → bit < 32 * length mask → (IsMarked mask bit ↔ (list_any (λ r. is_in r bit) ranges ≡ true))
