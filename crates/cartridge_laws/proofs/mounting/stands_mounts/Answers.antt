use Rattle.cartridge_laws.proofs.MountStanding.{standing_mounts, standing_mounts_only_so}
use Rattle.cartridge_laws.proofs.mounting.stands_mounts.Goals as goal

pub returns-clause-mounted : goal.returns-clause-mounted
returns-clause-mounted c = standing_mounts

pub returns-clause-nothing_else : goal.returns-clause-nothing_else
returns-clause-nothing_else c = standing_mounts_only_so
