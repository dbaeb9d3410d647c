-- How many sectors of a collected segment can't be read.
use Rattle.std.proofs.Common.{◌≡◌, ℕ, ◌/◌, ◌%◌, ◌^◌, ◌<◌, ◌≤◌, arith, inl, inr, List, length, take}
use Rattle.std.proofs.lemmas.Bool.{cases_lt}
use Rattle.std.proofs.lemmas.List.{length-take-le}
use Rattle.std.proofs.lemmas.List.Sums.{count_by-le-length}
use Rattle.std.proofs.lemmas.Nat.Bits.{bit_at_above}
use Rattle.cartridge_laws.proofs.Places.{count_below}
use Rattle.cartridge_spec.specs.Says.{unreadable_count}
use Rattle.cartridge_spec.specs.Shape.{is_unreadable, usable_count}
use Rattle.erasure_solve.specs.Lost.{lost_count}
use Rattle.qic_base.specs.CartridgeTerms.{IsLost}
use Rattle.qic_base.specs.declared.tape.SectorView.{SectorView}
use Rattle.silent_locate.proofs.Sectors.{count_among, length-cells_without}
use Rattle.silent_locate.specs.Deep.{cells_without}

lost_below : (lost n place : ℕ) → lost < 2 ^ n → IsLost lost place → place < n
lost_below lost n place low is =
    elim (cases_lt place n) [
      | inl lower ↦ lower
      | inr past ↦ let none : lost / 2 ^ place % 2 ≡ 0 = bit_at_above lost n place low past in absurd (omega arith)
    ]

-- as many as places are lost
pub count_without : (usable lost : ℕ) (old : List (List ℕ)) → length old ≡ 32 → lost < 2 ^ usable_count usable →
    lost_count lost ≡ unreadable_count (cells_without lost (take (usable_count usable) old))
count_without usable lost old room low =
    let n : ℕ = usable_count usable in
    let most : n ≤ 32 = count_below usable 32 in
    let long : length (take n old) ≡ n = length-take-le n old (omega arith) in
    count_among lost lost (take n old)
    (λ place. (λ is. (is, let lower : place < n = lost_below lost n place low is in omega arith), λ both. both.0)) (omega arith)

pub few_without : (usable lost : ℕ) (old : List (List ℕ)) → length old ≡ 32 → lost < 2 ^ usable_count usable →
    unreadable_count (cells_without lost (take (usable_count usable) old)) ≤ 3 → lost_count lost ≤ 3
few_without usable lost old room low few = omega (arith, few, count_without usable lost old room low)

-- and no more than there are
pub many_without : (usable lost n : ℕ) (old : List (List ℕ)) → length old ≡ 32 →
    (unreadable_count (cells_without lost (take (usable_count usable) old)) ≡ n) × (3 < n) → (3 < n) × (n ≤ 32)
many_without usable lost n old room many =
    let cells : List SectorView = cells_without lost (take (usable_count usable) old) in
    let most : usable_count usable ≤ 32 = count_below usable 32 in
    let long : length cells ≡ length (take (usable_count usable) old) = length-cells_without lost (take (usable_count usable) old) in
    let size : length (take (usable_count usable) old) ≡ usable_count usable = length-take-le (usable_count usable) old (omega arith) in
    let within : unreadable_count cells ≤ length cells = count_by-le-length is_unreadable cells in
    (many.1, omega (arith, many.0))
