-- The sets of sectors that the reading of the table's segment leaves out of account, by the sectors that are lost (this
-- project's profile).
use Rattle.std.specs.Prelude.{◌≡◌, ℕ, ◌-◌, ◌<◌, ◌++◌, true, List, [], ◌∷◌, Option, None, Some, length, replicate}
use Rattle.qic_base.specs.CartridgeTerms.{IsLost, with_place}
use Rattle.qic_base.specs.Cartridge.{lost_places}
use Rattle.cartridge_spec.specs.Shape.{sector_at}
use Rattle.cartridge_laws.specs.Slots.{has_used_slot}
use Rattle.cartridge_spec.specs.Says.{sets_by}
use Rattle.volume_table.specs.declared.sets_tried.Trials.{Trials}

-- ---- the last sector with a used slot

-- the sector of data at this place is not lost, and has a slot that begins with `VTBL`
pub record ShowsUsed (area : List (List ℕ)) (lost place : ℕ) : Type 0 where
  pub data_sector : place < 29
  pub kept : ¬ (IsLost lost place)
  pub used : has_used_slot (sector_at area place) ≡ true

-- and no later one does
pub record IsLastUsed (area : List (List ℕ)) (lost place : ℕ) : Type 0 where
  pub shows : ShowsUsed area lost place
  pub behind : (i : ℕ) → place < i → ¬ (ShowsUsed area lost i)

-- ---- the sets

-- a set with the last used sector, where there is one
abbrev pub with_last_used : (set : ℕ) → (used : Option ℕ) → List ℕ
with_last_used set None = []
with_last_used set (Some k) = with_place set k ∷ []

-- the sets that are tried: just the lost places, and then the further ones
abbrev pub tried : (lost : ℕ) → (used : Option ℕ) → List ℕ
tried lost used = lost ∷ sets_by used (lost_places lost 32)

-- these sets, in order, and empty ones behind them
pub record AreTrials (trials : Trials) (sets : List ℕ) : Type 0 where
  pub count : trials.count ≡ length sets
  pub listed : trials.sets ≡ sets ++ replicate (5 - length sets) 0
