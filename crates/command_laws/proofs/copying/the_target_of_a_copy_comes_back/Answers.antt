use Rattle.command_laws.proofs.CopyIntact.{done_copy_comes_back, printed_copy_comes_back, stopped_copy_comes_back}
use Rattle.command_laws.proofs.copying.the_target_of_a_copy_comes_back.Goals as goal

pub returns-clause-done : goal.returns-clause-done
returns-clause-done c = done_copy_comes_back

pub returns-clause-stopped : goal.returns-clause-stopped
returns-clause-stopped c = stopped_copy_comes_back

pub returns-clause-printed : goal.returns-clause-printed
returns-clause-printed c = printed_copy_comes_back
