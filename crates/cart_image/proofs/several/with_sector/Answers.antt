use Rattle.std.proofs.Common.{ℕ, ◌==◌, ◌∙◌, sym, ap}
use Rattle.std.specs.Int.{w32}
use Rattle.std.proofs.lemmas.Nat.Bits.{bit_at_set_same, bit_at_set_other}
use Rattle.qic_base.specs.CartridgeTerms.{is_lost}
use Rattle.cart_image.proofs.several.with_sector.Goals as goal

pub returns-then-is_more-clause-same : goal.returns-then-is_more-clause-same
returns-then-is_more-clause-same c =
    ap (λ (set : ℕ). is_lost set c.args.sector) c.from_mask.ensures
    ∙ ap (λ bit. bit == 1) (bit_at_set_same w32 c.mask.result c.args.sector c.requires.place) ∙ sym c.if-is_more.true

pub returns-then-is_more-clause-others : goal.returns-then-is_more-clause-others
returns-then-is_more-clause-others c = λ i apart.
    ap (λ (set : ℕ). is_lost set i) c.from_mask.ensures
    ∙ ap (λ bit. bit == 1) (bit_at_set_other w32 c.mask.result c.args.sector c.requires.place i apart)
    ∙ ap (λ (set : ℕ). is_lost set i) c.mask.ensures
