use Rattle.command_laws.proofs.CopyLeaving.{done_copy_gives, stopped_copy_gives}
use Rattle.command_laws.proofs.CopyPrinted.{printed_copy_gives}
use Rattle.command_laws.proofs.copying.a_copy_gives_what_a_restore_gives.Goals as goal

pub returns-clause-done : goal.returns-clause-done
returns-clause-done c = done_copy_gives

pub returns-clause-stopped : goal.returns-clause-stopped
returns-clause-stopped c = stopped_copy_gives

pub returns-clause-printed : goal.returns-clause-printed
returns-clause-printed c = printed_copy_gives
