use Rattle.command_laws.proofs.IntactScript.{answered_script_comes_back, done_script_comes_back, stopped_script_comes_back}
use Rattle.command_laws.proofs.intact.a_script_comes_back.Goals as goal

pub returns-clause-stopped : goal.returns-clause-stopped
returns-clause-stopped c = stopped_script_comes_back

pub returns-clause-answered : goal.returns-clause-answered
returns-clause-answered c = answered_script_comes_back

pub returns-clause-done : goal.returns-clause-done
returns-clause-done c = done_script_comes_back
