use Rattle.command_laws.proofs.MountedListed.{listed_reads, mounted_listed}
use Rattle.command_laws.proofs.mounted.a_mounted_cartridge_has_its_list.Goals as goal

pub returns-clause-mounted : goal.returns-clause-mounted
returns-clause-mounted c = mounted_listed

pub returns-clause-reads : goal.returns-clause-reads
returns-clause-reads c = listed_reads
