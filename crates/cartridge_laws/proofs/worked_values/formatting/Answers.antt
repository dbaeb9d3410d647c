use Rattle.std.proofs.Common.{refl}
use Rattle.cartridge_laws.proofs.worked_values.formatting.Goals as goal

pub returns-clause-copy : goal.returns-clause-copy
returns-clause-copy c = refl

pub returns-clause-clearing : goal.returns-clause-clearing
returns-clause-clearing c = refl
