-- How many sectors the masks name.
use Rattle.std.proofs.Common.{◌≡◌, ◌≤◌, sym, subst, refl, ℕ, arith}
use Rattle.qic_base.specs.Cartridge.{lost_places}
use Rattle.cartridge_laws.specs.Shape.{Carries}
use Rattle.cartridge_spec.specs.Shape.{usable_count}

-- all sectors but 3, 17, 30 and 31
pub marked_count : usable_count 1073610743 ≡ 28
unfolding lost_places
marked_count = refl

pub marked_carries : Carries 1073610743
marked_carries = subst (λ (n : ℕ). 4 ≤ n) (sym marked_count) (omega arith)
