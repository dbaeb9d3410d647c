use Rattle.command_laws.proofs.CopySteps.{copied_table_lives}
use Rattle.command_laws.proofs.copying.a_copied_table_lives.Goals as goal

pub returns : goal.returns
returns c = copied_table_lives
