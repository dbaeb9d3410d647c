use Rattle.std.proofs.Common.{arith, refl}
use Rattle.qic_base.specs.Field.{filled}
use Rattle.cartridge_laws.proofs.worked_values.places.Goals as goal

pub returns-clause-shortest : goal.returns-clause-shortest
returns-clause-shortest c = λ h. let least = h.shortest in omega arith

pub returns-clause-length : goal.returns-clause-length
returns-clause-length c = record { shortest = omega arith; longest = omega arith }

pub returns-clause-longest : goal.returns-clause-longest
returns-clause-longest c = λ h. let most = h.longest in omega arith

pub returns-clause-segment : goal.returns-clause-segment
returns-clause-segment c = λ h. let within = h.on_tape in omega arith

pub returns-clause-sector : goal.returns-clause-sector
returns-clause-sector c = λ h. let within = h.in_segment in omega arith

pub returns-clause-name : goal.returns-clause-name
returns-clause-name c = λ name. name.ends refl

pub returns-clause-width : goal.returns-clause-width
unfolding filled
returns-clause-width c = refl
