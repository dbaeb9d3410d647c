use Rattle.command_laws.proofs.BetweenCarrying.{comes_back_once_free, free_may_come_back, mounts_while_protected, steps_between_carry_on}
use Rattle.command_laws.proofs.intact.what_comes_between_carries_on.Goals as goal

pub returns-clause-begins : goal.returns-clause-begins
returns-clause-begins c = free_may_come_back

pub returns-clause-steps : goal.returns-clause-steps
returns-clause-steps c = steps_between_carry_on

pub returns-clause-mounts : goal.returns-clause-mounts
returns-clause-mounts c = mounts_while_protected

pub returns-clause-comes : goal.returns-clause-comes
returns-clause-comes c = comes_back_once_free
