use Rattle.command_laws.proofs.MadeRefused.{answered_make_stands}
use Rattle.command_laws.proofs.MadeStops.{done_make_stands, stopped_make_stands}
use Rattle.command_laws.proofs.generated.a_run_keeps_what_stands.Goals as goal

pub returns-clause-done : goal.returns-clause-done
returns-clause-done c = done_make_stands

pub returns-clause-stopped : goal.returns-clause-stopped
returns-clause-stopped c = stopped_make_stands

pub returns-clause-answered : goal.returns-clause-answered
returns-clause-answered c = answered_make_stands
