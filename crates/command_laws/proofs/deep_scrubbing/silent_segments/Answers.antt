use Rattle.command_laws.proofs.SilentElse.{nothing_else_changes}
use Rattle.command_laws.proofs.SilentRest.{volumes_are_made_whole}
use Rattle.command_laws.proofs.SilentWhole.{segments_are_made_whole, stopped_stay_mendable}
use Rattle.command_laws.proofs.deep_scrubbing.silent_segments.Goals as goal

pub returns-clause-whole : goal.returns-clause-whole
returns-clause-whole c = segments_are_made_whole

pub returns-clause-stopped : goal.returns-clause-stopped
returns-clause-stopped c = stopped_stay_mendable

pub returns-clause-nothing_else : goal.returns-clause-nothing_else
returns-clause-nothing_else c = nothing_else_changes

pub returns-clause-volumes : goal.returns-clause-volumes
returns-clause-volumes c = volumes_are_made_whole
