use Rattle.command_laws.proofs.ScrubTurns.{copy_is_looked_at}
use Rattle.command_laws.proofs.scrubbing.header_copies_read_alike.Goals as goal

pub returns : goal.returns
returns c = copy_is_looked_at
