use Rattle.command_laws.proofs.SilentMended.{silent_sectors_are_mounted, silent_sectors_are_mended}
use Rattle.command_laws.proofs.SilentSettled.{silent_sectors_end}
use Rattle.command_laws.proofs.deep_scrubbing.silent_sectors.Goals as goal

pub returns-clause-mounted : goal.returns-clause-mounted
returns-clause-mounted c = silent_sectors_are_mounted

pub returns-clause-mended : goal.returns-clause-mended
returns-clause-mended c = silent_sectors_are_mended

pub returns-clause-ends : goal.returns-clause-ends
returns-clause-ends c = silent_sectors_end
