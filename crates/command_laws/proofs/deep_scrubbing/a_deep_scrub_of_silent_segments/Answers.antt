use Rattle.command_laws.proofs.SilentRest.{deep_scrub_makes_whole, stopped_deep_scrub_stays_mendable}
use Rattle.command_laws.proofs.deep_scrubbing.a_deep_scrub_of_silent_segments.Goals as goal

pub returns-clause-whole : goal.returns-clause-whole
returns-clause-whole c = deep_scrub_makes_whole

pub returns-clause-stopped : goal.returns-clause-stopped
returns-clause-stopped c = stopped_deep_scrub_stays_mendable
