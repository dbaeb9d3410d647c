use Rattle.command_laws.proofs.IntactBehind.{answered_behind_append, done_behind_append, stopped_behind_append}
use Rattle.command_laws.proofs.intact.a_script_comes_back_behind_an_append.Goals as goal

pub returns-clause-stopped : goal.returns-clause-stopped
returns-clause-stopped c = stopped_behind_append

pub returns-clause-answered : goal.returns-clause-answered
returns-clause-answered c = answered_behind_append

pub returns-clause-done : goal.returns-clause-done
returns-clause-done c = done_behind_append
