use Rattle.cartridge_laws.proofs.AppendBySegments.{writes_by_segment, volume_steps_by_bytes, sectors_take_theirs}
use Rattle.cartridge_laws.proofs.appending.by_segments.Goals as goal

pub returns-clause-bytes : goal.returns-clause-bytes
returns-clause-bytes c = volume_steps_by_bytes

pub returns-clause-first : goal.returns-clause-first
returns-clause-first c = writes_by_segment

pub returns-clause-sectors : goal.returns-clause-sectors
returns-clause-sectors c = sectors_take_theirs
