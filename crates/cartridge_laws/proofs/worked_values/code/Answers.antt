use Rattle.std.proofs.Common.{refl}
use Rattle.cartridge_spec.specs.Code.{added, lagrange, parity, value_at, power, product, remainder, shifted_copies}
use Rattle.gf256_qic.specs.Code.{inverse}
use Rattle.cartridge_laws.proofs.worked_values.code.Goals as goal

pub returns-clause-square : goal.returns-clause-square
unfolding product power inverse shifted_copies remainder
returns-clause-square c = refl

pub returns-clause-power : goal.returns-clause-power
unfolding product power inverse shifted_copies remainder
returns-clause-power c = refl

pub returns-clause-inverse : goal.returns-clause-inverse
unfolding product power inverse shifted_copies remainder
returns-clause-inverse c = refl

pub returns-clause-one_byte : goal.returns-clause-one_byte
unfolding product power inverse shifted_copies remainder parity added lagrange value_at
returns-clause-one_byte c = refl

pub returns-clause-two_bytes : goal.returns-clause-two_bytes
unfolding product power inverse shifted_copies remainder parity added lagrange value_at
returns-clause-two_bytes c = refl

pub returns-clause-roots : goal.returns-clause-roots
unfolding product power inverse shifted_copies remainder parity added lagrange value_at
returns-clause-roots c = refl

pub returns-clause-wrong_byte : goal.returns-clause-wrong_byte
unfolding product power inverse shifted_copies remainder parity added lagrange value_at
returns-clause-wrong_byte c = refl
