use Rattle.std.proofs.Common.{refl}
use Rattle.host_driver.proofs.places.skip_command.Goals as goal

pub returns-then-forward : goal.returns-then-forward
returns-then-forward c = rw c.if-forward.true refl

pub returns-else-forward : goal.returns-else-forward
returns-else-forward c = rw c.if-forward.false refl
