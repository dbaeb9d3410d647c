use Rattle.command_laws.proofs.ScrubAgain.{second_scrub_writes_nothing}
use Rattle.command_laws.proofs.scrubbing.second_scrub.Goals as goal

pub returns : goal.returns
returns c = second_scrub_writes_nothing
