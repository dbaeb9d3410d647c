-- What the slots before a slot have told, and what one slot tells (this project's profile).
use Rattle.std.specs.Prelude.{ℕ, zero, suc, List, ◌≡◌, ◌≤◌}
use Rattle.cartridge_spec.specs.Table.{slot, entry_in}

-- the last segment that is taken before slot i, where all slots before it are used: the end of
-- the slot before it, and before the first slot the table's own segment
abbrev pub taken_before : List (List ℕ) → ℕ → ℕ
taken_before area zero = 2
taken_before area (suc i) = (entry_in (slot area i)).end

-- this segment is it, and lies in front of no volume's place
pub record IsTakenBefore (area : List (List ℕ)) (i taken : ℕ) : Type 0 where
  pub is : taken ≡ taken_before area i
  pub least : 2 ≤ taken
