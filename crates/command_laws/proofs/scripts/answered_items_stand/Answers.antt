use Rattle.command_laws.proofs.ScriptAnswered.{answered_behind, answered_between}
use Rattle.command_laws.proofs.scripts.answered_items_stand.Goals as goal

pub returns-clause-between : goal.returns-clause-between
returns-clause-between c = answered_between

pub returns-clause-behind : goal.returns-clause-behind
returns-clause-behind c = answered_behind
