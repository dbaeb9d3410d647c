use Rattle.cartridge_laws.proofs.AppendMounted.{free_writes_leave_ready, free_writes_leave_settled, free_writes_are_clean}
use Rattle.cartridge_laws.proofs.AppendVolume.{free_writes_stand}
use Rattle.cartridge_laws.proofs.AppendWhole.{sector_writes_are_cartridge}
use Rattle.cartridge_laws.proofs.appending.free_writes.Goals as goal

pub returns-clause-stands : goal.returns-clause-stands
returns-clause-stands c = free_writes_stand

pub returns-clause-whole : goal.returns-clause-whole
returns-clause-whole c = sector_writes_are_cartridge

pub returns-clause-ready : goal.returns-clause-ready
returns-clause-ready c = free_writes_leave_ready

pub returns-clause-settled : goal.returns-clause-settled
returns-clause-settled c = free_writes_leave_settled

pub returns-clause-clean : goal.returns-clause-clean
returns-clause-clean c = free_writes_are_clean
