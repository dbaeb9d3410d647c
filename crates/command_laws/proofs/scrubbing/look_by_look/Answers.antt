use Rattle.command_laws.proofs.ScrubLooking.{one_more_look}
use Rattle.command_laws.proofs.ScrubNamed.{steps_by_places, count_of_named}
use Rattle.command_laws.proofs.scrubbing.look_by_look.Goals as goal

pub returns-clause-more : goal.returns-clause-more
returns-clause-more c = one_more_look

pub returns-clause-places : goal.returns-clause-places
returns-clause-places c = steps_by_places

pub returns-clause-count : goal.returns-clause-count
returns-clause-count c = count_of_named
