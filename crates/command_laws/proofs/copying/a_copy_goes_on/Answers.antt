use Rattle.command_laws.proofs.CopyGoing.{copy_goes_on}
use Rattle.command_laws.proofs.copying.a_copy_goes_on.Goals as goal

pub returns : goal.returns
returns c = copy_goes_on
