use Rattle.std.proofs.Common.{◌≡◌, ℕ, ◌/◌, ◌%◌, ◌^◌, ◌-◌, ◌≤◌, ◌∙◌, ap, min, arith, inl, inr}
use Rattle.std.specs.Int.RustNames.{bit_and}
use Rattle.std.proofs.lemmas.Bool.{cases_lt}
use Rattle.std.proofs.lemmas.Nat.Bits.{bit_at_and, bit_at_ones, bit_at_ones_above, ones_shr}
use Rattle.silent_locate.proofs.places.lost_among.Goals as goal

pub returns : goal.returns
returns c =
    λ place.
    let count : ℕ = c.args.count in
    let most : count ≤ 32 = c.requires.most in
    let back : 32 - (32 - count) ≡ count = omega arith in
    let ones : (2 ^ 32 - 1) / 2 ^ (32 - count) ≡ 2 ^ count - 1 =
    ones_shr 32 (32 - count) (omega arith) ∙ ap (λ (k : ℕ). 2 ^ k - 1) back in
    let bit : c.from_mask.result / 2 ^ place % 2 ≡ min (c.args.lost / 2 ^ place % 2) ((2 ^ count - 1) / 2 ^ place % 2) =
    ap (λ (m : ℕ). m / 2 ^ place % 2) c.from_mask.ensures
    ∙ ap (λ (m : ℕ). bit_and c.mask.result m / 2 ^ place % 2) ones
    ∙ bit_at_and c.mask.result (2 ^ count - 1) place
    ∙ ap (λ (m : ℕ). min (m / 2 ^ place % 2) ((2 ^ count - 1) / 2 ^ place % 2)) c.mask.ensures in
    elim (cases_lt place count) [
      | inl below ↦
          let one : (2 ^ count - 1) / 2 ^ place % 2 ≡ 1 = bit_at_ones count place below in
          (λ on. (omega arith, below), λ on. omega (arith, on.0))
      | inr above ↦
          let none : (2 ^ count - 1) / 2 ^ place % 2 ≡ 0 = bit_at_ones_above count place above in
          (λ on. absurd (omega arith), λ on. absurd (omega (arith, on.1)))
    ]
