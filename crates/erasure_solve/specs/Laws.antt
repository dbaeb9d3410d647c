-- The law of lost sectors, as a fact.
use Rattle.std.specs.Prelude.{◌≡◌, ℕ, ◌≤◌, List}
use Rattle.cartridge_spec.specs.Code.{IsCodeBlock}
use Rattle.gf256_qic.specs.Code.{AgreesOutside}
use Rattle.erasure_solve.specs.Lost.{lost_count}
use Rattle.qic_base.specs.CartridgeTerms.{is_lost}

-- at most one code block agrees with sectors of which at most three are lost (QIC-80-MC)
abbrev pub OneSolution : Type 0
OneSolution =
    (mask : ℕ) (sectors block other : List (List ℕ)) → lost_count mask ≤ 3 →
    IsCodeBlock block → AgreesOutside (is_lost mask) sectors block →
    IsCodeBlock other → AgreesOutside (is_lost mask) sectors other → block ≡ other
