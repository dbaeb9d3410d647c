-- Two tables that differ in one sector of data, and the last sector in use (this project's profile).
use Rattle.std.specs.Prelude.{◌≡◌, ◌≢◌, ℕ, ◌<◌, List, true, false}
use Rattle.cartridge_spec.specs.Shape.{IsArea, sector_at}
use Rattle.cartridge_laws.specs.Slots.{has_used_slot}

-- the data of two tables, which differ in one sector alone
pub record DifferInOne (old new : List (List ℕ)) (changed : ℕ) : Type 0 where
  pub old_area : IsArea old
  pub new_area : IsArea new
  pub data_sector : changed < 29
  pub others : (i : ℕ) → i < 29 → i ≢ changed → sector_at old i ≡ sector_at new i
  pub differs : sector_at old changed ≢ sector_at new changed

-- the sector has a used slot, and no sector of data behind it has one
pub record IsLastInUse (area : List (List ℕ)) (place : ℕ) : Type 0 where
  pub used : has_used_slot (sector_at area place) ≡ true
  pub behind : (i : ℕ) → place < i → i < 29 → has_used_slot (sector_at area i) ≡ false
