use Rattle.std.proofs.Common.{◌∙◌, ap, bit_xor}
use Rattle.cartridge_spec.specs.Code.{product}
use Rattle.segment_parity.proofs.Rows.{product_0xC0}
use Rattle.segment_parity.proofs.times_0xc0.Goals as goal

pub returns : goal.returns
returns c =
    ap (λ v. bit_xor (bit_xor v c.args.a) c.over_x.result) c.times_x.ensures
    ∙ ap (bit_xor (bit_xor (product c.args.a 2) c.args.a)) c.over_x.ensures
    ∙ product_0xC0 c.args.a c.ranges.a.fits
