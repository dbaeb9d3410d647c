use Rattle.command_laws.proofs.ScrubApart.{looked_carry, looked_rise}
use Rattle.command_laws.proofs.ScrubAtOnce.{scrubs_at_once}
use Rattle.command_laws.proofs.ScrubTurns.{scrubs_is_function, scrubs_always}
use Rattle.command_laws.proofs.scrubbing.scrubbing_is_one.Goals as goal

pub returns-clause-function : goal.returns-clause-function
returns-clause-function c = scrubs_is_function

pub returns-clause-always : goal.returns-clause-always
returns-clause-always c = scrubs_always

pub returns-clause-rise : goal.returns-clause-rise
returns-clause-rise c words entries last order = looked_rise words last entries order

pub returns-clause-at_once : goal.returns-clause-at_once
returns-clause-at_once c = scrubs_at_once

pub returns-clause-carry : goal.returns-clause-carry
returns-clause-carry c = looked_carry
