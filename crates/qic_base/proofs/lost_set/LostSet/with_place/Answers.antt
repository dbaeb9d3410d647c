use Rattle.std.proofs.Common.{◌≡◌, ℕ, ◌*◌, ◌/◌, ◌%◌, ◌^◌, ◌<◌, ◌∙◌, sym, ap, subst, arith}
use Rattle.std.specs.Int.{w32}
use Rattle.std.specs.Int.RustNames.{bit_or}
use Rattle.std.proofs.lemmas.Nat.{or_lt}
use Rattle.std.proofs.Math.Pow.{pow-lt}
use Rattle.std.proofs.lemmas.Nat.Bits.{bit_at_set_same, bit_at_set_other}
use Rattle.qic_base.proofs.lost_set.LostSet.with_place.Goals as goal

pub returns-clause-more : goal.returns-clause-more
returns-clause-more c =
    ap (λ (m : ℕ). m / 2 ^ c.args.place % 2) c.from_mask.ensures
    ∙ bit_at_set_same w32 c.mask.result c.args.place c.requires

pub returns-clause-others : goal.returns-clause-others
returns-clause-others c =
    λ other apart.
    let same : c.from_mask.result / 2 ^ other % 2 ≡ c.args.self / 2 ^ other % 2 =
    ap (λ (m : ℕ). m / 2 ^ other % 2) c.from_mask.ensures
    ∙ bit_at_set_other w32 c.mask.result c.args.place c.requires other apart
    ∙ ap (λ (m : ℕ). m / 2 ^ other % 2) c.mask.ensures in
    (λ on. sym same ∙ on, λ on. same ∙ on)

pub returns-clause-below : goal.returns-clause-below
returns-clause-below c =
    λ count within low.
    let one : ℕ = 1 * 2 ^ c.args.place % 2 ^ 32 in
    let before : c.mask.result < 2 ^ count = subst (λ (m : ℕ). m < 2 ^ count) (sym c.mask.ensures) low in
    let here : 2 ^ c.args.place < 2 ^ count = pow-lt {i = c.args.place} {j = count} within in
    let both : bit_or c.mask.result one < 2 ^ count = or_lt count c.mask.result one before (omega arith) in
    subst (λ (m : ℕ). m < 2 ^ count) (sym c.from_mask.ensures) both
