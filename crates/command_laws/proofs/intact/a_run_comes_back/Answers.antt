use Rattle.command_laws.proofs.IntactMade.{done_make_is_intact, printed_make_comes_back, stopped_make_comes_back}
use Rattle.command_laws.proofs.intact.a_run_comes_back.Goals as goal

pub returns-clause-stopped : goal.returns-clause-stopped
returns-clause-stopped c = stopped_make_comes_back

pub returns-clause-done : goal.returns-clause-done
returns-clause-done c = done_make_is_intact

pub returns-clause-printed : goal.returns-clause-printed
returns-clause-printed c = printed_make_comes_back
