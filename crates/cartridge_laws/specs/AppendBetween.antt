-- The table's segment while an append writes it: its data sector first, then the sectors of parity (this project's profile).
use Rattle.std.specs.Prelude.{ℕ, ◌<◌, List, ◌≡◌, ◌≢◌, ◌⊎◌, ◌≤◌}
use Rattle.cartridge_laws.specs.MountBlocks.{HoldsPart}
use Rattle.qic_base.specs.Cartridge.{Cartridge, view_at}
use Rattle.qic_base.specs.declared.tape.SectorView.TheVariants.{Lost}

-- all 32 sectors of the segment hold their parts of these data
abbrev pub IsWhole : Cartridge → (area : List (List ℕ)) → Type 0
IsWhole c area = (i : ℕ) → i < 32 → HoldsPart c area i

-- the changed sector of data is lost, and the others hold those of the old data
pub record IsBegun (c : Cartridge) (old : List (List ℕ)) (changed : ℕ) : Type 0 where
  pub lost : view_at c 2 changed ≡ Lost
  pub others : (i : ℕ) → i < 32 → i ≢ changed → HoldsPart c old i

-- the data are new; of the sectors of parity those before one are new, that one is old, lost or new, and those behind it
-- are old
pub record IsTurned (c : Cartridge) (old new : List (List ℕ)) : Type 0 where
  pub turn : ℕ
  pub within : turn ≤ 32
  pub from : 29 ≤ turn
  pub before : (i : ℕ) → i < turn → HoldsPart c new i
  pub here : turn < 32 → HoldsPart c old turn ⊎ (view_at c 2 turn ≡ Lost)
  pub behind : (i : ℕ) → turn < i → i < 32 → HoldsPart c old i

-- a state between two tables that differ in one sector of data
abbrev pub Between : Cartridge → (old new : List (List ℕ)) → (changed : ℕ) → Type 0
Between c old new changed = IsWhole c old ⊎ IsBegun c old changed ⊎ IsTurned c old new
