-- The places that are left out of account where one more than the lost ones is tried.
use Rattle.std.specs.Prelude.{ℕ, ◌==◌, ◌||◌, Bool}
use Rattle.qic_base.specs.CartridgeTerms.{is_lost}

-- whether a place is lost, or is the one that is tried
abbrev pub lost_or : (lost tried : ℕ) → ℕ → Bool
lost_or lost tried place = is_lost lost place || (place == tried)
