use Rattle.command_laws.proofs.CopyLeaving.{stopped_source_stands}
use Rattle.command_laws.proofs.CopyStood.{done_copy_stands, stopped_copy_stands}
use Rattle.command_laws.proofs.copying.a_copy_adds_the_missing_volumes.Goals as goal

pub returns-clause-done : goal.returns-clause-done
returns-clause-done c = done_copy_stands

pub returns-clause-stopped : goal.returns-clause-stopped
returns-clause-stopped c = stopped_copy_stands

pub returns-clause-source : goal.returns-clause-source
returns-clause-source c = stopped_source_stands
