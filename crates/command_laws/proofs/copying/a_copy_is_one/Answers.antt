use Rattle.command_laws.proofs.CopyOnce.{copies_one_thing}
use Rattle.command_laws.proofs.copying.a_copy_is_one.Goals as goal

pub returns : goal.returns
returns c = copies_one_thing
