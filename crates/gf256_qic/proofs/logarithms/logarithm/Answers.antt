use Rattle.gf256_qic.proofs.Exponents.{logarithm-within, power-logarithm}
use Rattle.gf256_qic.proofs.logarithms.logarithm.Goals as goal

pub returns-clause-within : goal.returns-clause-within
returns-clause-within c = logarithm-within c.args.a c.ranges.a.fits c.requires

pub returns-clause-power : goal.returns-clause-power
returns-clause-power c = power-logarithm c.args.a c.ranges.a.fits c.requires
