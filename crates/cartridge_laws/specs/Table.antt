-- A list of volumes in order: each behind the one before it, all of them behind the table and on the cartridge (this
-- project's profile).
use Rattle.std.specs.Prelude.{ℕ, ◌<◌, ◌≤◌, List, [], ◌∷◌}
use Rattle.cartridge_spec.specs.Table.{Entry}
use Rattle.cartridge_spec.specs.Appending.{end_behind}

-- ---- lists in order

-- each volume lies behind this segment and behind the one before it, forwards, up to the last segment
abbrev pub LieBehind : (before last : ℕ) → List Entry → Type 0
LieBehind before last [] = Unit {0}
LieBehind before last (e ∷ es) = (before < e.start) × (e.start ≤ e.end) × (e.end ≤ last) × LieBehind e.end last es

-- the volumes lie behind the table's segment, in order, on a cartridge whose last segment is this
abbrev pub IsSoundList : (last : ℕ) → List Entry → Type 0
IsSoundList last entries = LieBehind 2 last entries

-- the last segment that is taken: the end of the last volume, or the table's segment
abbrev pub last_end : List Entry → ℕ
last_end entries = end_behind 2 entries
