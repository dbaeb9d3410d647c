use Rattle.cartridge_laws.proofs.MountWhole.{stopped_is_cartridge}
use Rattle.cartridge_laws.proofs.MountKeeping.{stopped_mounts, stopped_stands, stopped_is_clean}
use Rattle.cartridge_laws.proofs.MountAlike.{stopped_settles_alike}
use Rattle.cartridge_laws.proofs.MountSettling.{stopped_settling}
use Rattle.cartridge_laws.proofs.mounting.stopped_settling.Goals as goal

pub returns-clause-table : goal.returns-clause-table
returns-clause-table c = stopped_settling

pub returns-clause-alike : goal.returns-clause-alike
returns-clause-alike c = stopped_settles_alike

pub returns-clause-mounts : goal.returns-clause-mounts
returns-clause-mounts c = stopped_mounts

pub returns-clause-stands : goal.returns-clause-stands
returns-clause-stands c = stopped_stands

pub returns-clause-whole : goal.returns-clause-whole
returns-clause-whole c = stopped_is_cartridge

pub returns-clause-clean : goal.returns-clause-clean
returns-clause-clean c = stopped_is_clean
