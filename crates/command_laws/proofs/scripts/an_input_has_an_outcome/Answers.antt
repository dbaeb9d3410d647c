use Rattle.command_laws.proofs.ScriptOutcomes.{each_outcome}
use Rattle.command_laws.proofs.scripts.an_input_has_an_outcome.Goals as goal

pub returns : goal.returns
returns c = each_outcome
