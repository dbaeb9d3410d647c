use Rattle.command_laws.proofs.ReadableRuns.{comes_back_can_be_read, left_can_be_read}
use Rattle.command_laws.proofs.intact.what_comes_back_can_be_read.Goals as goal

pub returns-clause-comes : goal.returns-clause-comes
returns-clause-comes c = comes_back_can_be_read

pub returns-clause-left : goal.returns-clause-left
returns-clause-left c = left_can_be_read
