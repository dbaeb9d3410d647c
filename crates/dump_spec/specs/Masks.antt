-- The masks of segments: what the header's map or list leaves, without what the list of bad sectors names (this project's
-- profile).
use Rattle.std.specs.Prelude.{ℕ, zero, suc, ◌+◌, ◌^◌, ◌||◌, not, Bool, List, if◌then◌else◌, Option, Some, None}
use Rattle.dump_spec.specs.Header.{is_bad_by}
use Rattle.dump_spec.specs.Lists.{BadSectors, is_listed_bad}

-- the set of the places below a number that pass a test
unfoldable pub set_where : (ℕ → Bool) → ℕ → ℕ
set_where test zero = 0
set_where test (suc place) = set_where test place + (if test place then 2 ^ place else 0)

-- a sector is bad, by the data of the header, if there is one, and by the list
abbrev pub is_bad : Option (List (List ℕ)) → List BadSectors → (segment index : ℕ) → Bool
is_bad None bad segment index = is_listed_bad bad segment index
is_bad (Some area) bad segment index = is_bad_by area segment index || is_listed_bad bad segment index

-- the mask of a segment: the set of its usable sectors
abbrev pub dump_mask : Option (List (List ℕ)) → List BadSectors → (segment : ℕ) → ℕ
dump_mask header bad segment = set_where (λ index. not (is_bad header bad segment index)) 32
