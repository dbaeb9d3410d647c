use Rattle.command_laws.proofs.RestoreGiven.{given_is_function, given_always, given_begins_restored, given_is_long}
use Rattle.command_laws.proofs.restoring.given_bytes_are_one.Goals as goal

pub returns-clause-function : goal.returns-clause-function
returns-clause-function c = given_is_function

pub returns-clause-always : goal.returns-clause-always
returns-clause-always c = given_always

pub returns-clause-front : goal.returns-clause-front
returns-clause-front c = given_begins_restored

pub returns-clause-long : goal.returns-clause-long
returns-clause-long c = given_is_long
