use Rattle.cartridge_laws.proofs.MountWhole.{settled_is_cartridge}
use Rattle.cartridge_laws.proofs.MountSettled.{settled_keeps_table, settled_mounts, settled_stands, settled_is_clean, settled_is_written}
use Rattle.cartridge_laws.proofs.MountSettled.{settled_reads_plainly, settled_twice, settled_is_whole, settled_needs_no_steps}
use Rattle.cartridge_laws.proofs.mounting.settled_table.Goals as goal

pub returns-clause-table : goal.returns-clause-table
returns-clause-table c = settled_keeps_table

pub returns-clause-mounts : goal.returns-clause-mounts
returns-clause-mounts c = settled_mounts

pub returns-clause-stands : goal.returns-clause-stands
returns-clause-stands c = settled_stands

pub returns-clause-written : goal.returns-clause-written
returns-clause-written c = settled_is_written

pub returns-clause-no_steps : goal.returns-clause-no_steps
returns-clause-no_steps c = settled_needs_no_steps

pub returns-clause-whole : goal.returns-clause-whole
returns-clause-whole c = settled_is_cartridge

pub returns-clause-twice : goal.returns-clause-twice
returns-clause-twice c = settled_twice

pub returns-clause-all : goal.returns-clause-all
returns-clause-all c = settled_is_whole

pub returns-clause-clean : goal.returns-clause-clean
returns-clause-clean c = settled_is_clean

pub returns-clause-plain : goal.returns-clause-plain
returns-clause-plain c = settled_reads_plainly
