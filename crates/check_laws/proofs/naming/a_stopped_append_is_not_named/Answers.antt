use Rattle.check_laws.proofs.Stopped.{next_append_names_none, stopped_append_names_none, stopped_settling_names_none}
use Rattle.check_laws.proofs.naming.a_stopped_append_is_not_named.Goals as goal

pub returns-clause-stopped : goal.returns-clause-stopped
returns-clause-stopped c = stopped_append_names_none

pub returns-clause-settling : goal.returns-clause-settling
returns-clause-settling c = stopped_settling_names_none

pub returns-clause-next : goal.returns-clause-next
returns-clause-next c = next_append_names_none
