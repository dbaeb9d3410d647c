use Rattle.std.proofs.Common.{◌∙◌, ap, bit_and, bit_xor, ◌/◌}
use Rattle.gf256_qic.proofs.Exponents.{product_half}
use Rattle.gf256_qic.proofs.over_x.Goals as goal

pub returns : goal.returns
returns c =
    ap (λ m. bit_xor (c.args.a / 2) (bit_and 195 m)) c.mask.ensures
    ∙ product_half c.args.a c.ranges.a.fits
