use Rattle.cartridge_laws.proofs.ChangeStanding.{worn_stands, few_lost_is_in_force}
use Rattle.cartridge_laws.proofs.ChangeMounted.{worn_mounts}
use Rattle.cartridge_laws.proofs.changes.worn_sector.Goals as goal

pub returns-clause-stands : goal.returns-clause-stands
returns-clause-stands c = worn_stands

pub returns-clause-in_force : goal.returns-clause-in_force
returns-clause-in_force c = few_lost_is_in_force

pub returns-clause-mounts : goal.returns-clause-mounts
returns-clause-mounts c = worn_mounts
