use Rattle.command_laws.proofs.ScrubForms.{found_may_be, finds_at_once_is}
use Rattle.command_laws.proofs.ScrubOneWrong.{form_is_function, form_always}
use Rattle.command_laws.proofs.ScrubPlain.{shallow_is_scrub}
use Rattle.command_laws.proofs.deep_scrubbing.forms_of_scrubbing.Goals as goal

pub returns-clause-shallow : goal.returns-clause-shallow
returns-clause-shallow c = shallow_is_scrub

pub returns-clause-at_once : goal.returns-clause-at_once
returns-clause-at_once c = finds_at_once_is

pub returns-clause-function : goal.returns-clause-function
returns-clause-function c = form_is_function

pub returns-clause-always : goal.returns-clause-always
returns-clause-always c = form_always

pub returns-clause-may : goal.returns-clause-may
returns-clause-may c = found_may_be
