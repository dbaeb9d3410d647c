-- The lost cells of sectors, by the set of their places.
use Rattle.std.proofs.Common.{◌≡◌, ℕ, ◌/◌, ◌%◌, ◌^◌, ◌<◌, ◌≤◌, inl, inr, List, length, arith}
use Rattle.std.proofs.lemmas.Bool.{cases_lt}
use Rattle.std.proofs.lemmas.Nat.Bits.{bit_at_above}
use Rattle.cartridge_spec.specs.Says.{unreadable_count}
use Rattle.erasure_solve.specs.Lost.{lost_count}
use Rattle.qic_base.specs.CartridgeTerms.{IsLost}
use Rattle.silent_locate.proofs.Sectors.{IsAmong, count_among}
use Rattle.silent_locate.specs.Deep.{cells_without}

-- a set below a power of two has places below its exponent alone
pub lost_within : (lost place n : ℕ) → IsLost lost place → lost < 2 ^ n → place < n
lost_within lost place n on low =
    elim (cases_lt place n) [
      | inl below ↦ below
      | inr above ↦ let none : lost / 2 ^ place % 2 ≡ 0 = bit_at_above lost n place low above in absurd (omega arith)
    ]

-- as many cells can't be read as places are in the set
pub count_lost : (lost : ℕ) (sectors : List (List ℕ)) → length sectors ≤ 32 → lost < 2 ^ length sectors →
    lost_count lost ≡ unreadable_count (cells_without lost sectors)
count_lost lost sectors most low =
    let among : IsAmong lost lost (length sectors) = λ place. (λ on. (on, lost_within lost place (length sectors) on low), λ on. on.0) in
    count_among lost lost sectors among most
