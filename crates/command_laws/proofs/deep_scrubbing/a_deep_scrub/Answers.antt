use Rattle.command_laws.proofs.DeepScrubEnds.{deep_scrub_mends, deep_scrub_stopped, first_copy_is_right}
use Rattle.command_laws.proofs.deep_scrubbing.a_deep_scrub.Goals as goal

pub returns-clause-right : goal.returns-clause-right
returns-clause-right c = first_copy_is_right

pub returns-clause-mends : goal.returns-clause-mends
returns-clause-mends c = deep_scrub_mends

pub returns-clause-stopped : goal.returns-clause-stopped
returns-clause-stopped c = deep_scrub_stopped
