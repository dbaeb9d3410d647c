-- A dump on a disk, the set of its sectors that were rescued, and what is read of a piece of it (this project's own).
use Rattle.std.specs.Prelude.{ℕ, ◌+◌, ◌*◌, ◌/◌, ◌%◌, ◌==◌, ◌&&◌, ◌≡◌, ◌<◌, ◌≤◌, ◌↔◌, nat_lt, not, Bool, true, List, length, slice_index}
use Rattle.std.specs.Prelude.{Option, Some}
use Rattle.std.specs.Int.{bit_at}
use Rattle.dump_spec.specs.Dump.{Dump, sector_view}
use Rattle.rescue_map.specs.Mask.{IsMarked}
use Rattle.segment_salvage.specs.Buffer.{buffer_view}

-- a bit of the set is 1 exactly where that sector of the dump was rescued
abbrev pub IsRescuedSet : Dump → (rescued : List ℕ) → Type 0
IsRescuedSet dump rescued = (q : ℕ) → q < 32 * length rescued → (IsMarked rescued q ↔ (dump.rescued q ≡ true))

-- the bytes of the dump are those that a disk tells, and the set has a bit for each of its sectors
pub record IsDumpIn (told : Option (List ℕ)) (rescued : List ℕ) (dump : Dump) : Type 0 where
  pub bytes : told ≡ Some dump.bytes
  pub covers : length dump.bytes ≤ 32768 * length rescued
  pub set : IsRescuedSet dump rescued

-- the sector is in the set
abbrev pub is_marked : (rescued : List ℕ) (sector : ℕ) → Bool
is_marked rescued sector = nat_lt sector (32 * length rescued) && (bit_at (slice_index rescued (sector / 32)) (sector % 32) == 1)

-- of the sectors from one on, of which so many were read whole, the one with an index can't be read
abbrev pub is_unread : (rescued : List ℕ) (start held index : ℕ) → Bool
is_unread rescued start held index = not (nat_lt index held && is_marked rescued (start + index))

-- the first sectors in memory, so many, are those of the dump from one on
abbrev pub HoldsSectors : Dump → (start count unread : ℕ) → (sectors : List (List ℕ)) → Type 0
HoldsSectors dump start count unread sectors =
    (index : ℕ) → index < count → buffer_view unread sectors index ≡ sector_view dump (start + index)
