use Rattle.cartridge_laws.proofs.ChangeStanding.{protected_stands, referenced_stands}
use Rattle.cartridge_laws.proofs.ChangeMounted.{protected_mounts, referenced_mounts}
use Rattle.cartridge_laws.proofs.changes.marks.Goals as goal

pub returns-clause-protected_stands : goal.returns-clause-protected_stands
returns-clause-protected_stands c = protected_stands

pub returns-clause-protected_mounts : goal.returns-clause-protected_mounts
returns-clause-protected_mounts c = protected_mounts

pub returns-clause-referenced_stands : goal.returns-clause-referenced_stands
returns-clause-referenced_stands c = referenced_stands

pub returns-clause-referenced_mounts : goal.returns-clause-referenced_mounts
returns-clause-referenced_mounts c = referenced_mounts
