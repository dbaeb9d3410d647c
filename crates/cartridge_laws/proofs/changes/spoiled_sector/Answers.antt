use Rattle.cartridge_laws.proofs.ChangeStanding.{spoiled_stands}
use Rattle.cartridge_laws.proofs.ChangeMounted.{spoiled_mounts}
use Rattle.cartridge_laws.proofs.changes.spoiled_sector.Goals as goal

pub returns-clause-stands : goal.returns-clause-stands
returns-clause-stands c = spoiled_stands

pub returns-clause-mounts : goal.returns-clause-mounts
returns-clause-mounts c = spoiled_mounts
