-- Sectors with zero bytes in the place of lost ones (this project's profile).
use Rattle.std.specs.Prelude.{ℕ, suc, List, [], ◌∷◌, if◌then◌else◌}
use Rattle.qic_base.specs.Cartridge.{zero_sector}
use Rattle.qic_base.specs.CartridgeTerms.{is_lost}

-- the sectors, the first of which is at this place
unfoldable pub filled_from : (lost place : ℕ) → List (List ℕ) → List (List ℕ)
filled_from lost place [] = []
filled_from lost place (bytes ∷ sectors) =
    (if is_lost lost place then zero_sector else bytes) ∷ filled_from lost (suc place) sectors
