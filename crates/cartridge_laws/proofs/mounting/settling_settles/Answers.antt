use Rattle.cartridge_laws.proofs.MountSettles.{settling_settles}
use Rattle.cartridge_laws.proofs.MountWhole.{settling_effects}
use Rattle.cartridge_laws.proofs.mounting.settling_settles.Goals as goal

pub returns-clause-settled : goal.returns-clause-settled
returns-clause-settled c = settling_settles

pub returns-clause-held : goal.returns-clause-held
returns-clause-held c = settling_effects
