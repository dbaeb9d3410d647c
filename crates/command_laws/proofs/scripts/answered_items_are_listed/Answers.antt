use Rattle.command_laws.proofs.ScriptListing.{listed_behind_act, listed_between, listed_done, listed_none}
use Rattle.command_laws.proofs.scripts.answered_items_are_listed.Goals as goal

pub returns-clause-between : goal.returns-clause-between
returns-clause-between c = listed_between

pub returns-clause-behind : goal.returns-clause-behind
returns-clause-behind c = listed_behind_act

pub returns-clause-done : goal.returns-clause-done
returns-clause-done c = listed_done

pub returns-clause-none : goal.returns-clause-none
returns-clause-none c = listed_none
