use Rattle.std.proofs.Common.{◌∙◌, ap, bit_and, bit_xor, ◌*◌, ◌%◌}
use Rattle.gf256_qic.proofs.Exponents.{product_two}
use Rattle.gf256_qic.proofs.times_x.Goals as goal

pub returns : goal.returns
returns c =
    ap (λ m. bit_xor (c.args.a * 2 % 256) (bit_and 135 m)) c.mask.ensures
    ∙ product_two c.args.a c.ranges.a.fits
