-- The places of a segment that are lost, and what can be said of the sectors there.
use Rattle.std.specs.Prelude.{◌≡◌, ℕ, Bool, List, length}
use Rattle.qic_base.specs.Cartridge.{lost_places}
use Rattle.cartridge_spec.specs.Code.{IsCodeBlock}
use Rattle.gf256_qic.specs.Code.{AgreesOutside}

-- how many places the mask names (this project's profile)
abbrev pub lost_count : ℕ → ℕ
lost_count mask = length (lost_places mask 32)

-- each code block (QIC-80-MC) that agrees with the sectors that are not lost is this one
abbrev pub IsOnlyBlock : (ℕ → Bool) → List (List ℕ) → List (List ℕ) → Type 0
IsOnlyBlock lost sectors block =
    (other : List (List ℕ)) → IsCodeBlock other → AgreesOutside lost sectors other → block ≡ other
