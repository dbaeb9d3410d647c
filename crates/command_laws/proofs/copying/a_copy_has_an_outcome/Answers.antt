use Rattle.command_laws.proofs.CopyOutcomes.{copies_something}
use Rattle.command_laws.proofs.copying.a_copy_has_an_outcome.Goals as goal

pub returns : goal.returns
returns c = copies_something
