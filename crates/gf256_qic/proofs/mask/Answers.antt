use Rattle.gf256_qic.proofs.Exponents.{mask_is}
use Rattle.gf256_qic.proofs.mask.Goals as goal

pub returns : goal.returns
returns c = mask_is c.args.a c.ranges.a.fits
