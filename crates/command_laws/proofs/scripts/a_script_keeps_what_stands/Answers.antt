use Rattle.command_laws.proofs.ScriptAnswered.{done_script_stands, stopped_script_stands}
use Rattle.command_laws.proofs.scripts.a_script_keeps_what_stands.Goals as goal

pub returns-clause-done : goal.returns-clause-done
returns-clause-done c = done_script_stands

pub returns-clause-stopped : goal.returns-clause-stopped
returns-clause-stopped c = stopped_script_stands
