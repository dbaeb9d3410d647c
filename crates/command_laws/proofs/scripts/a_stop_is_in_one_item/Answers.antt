use Rattle.command_laws.proofs.ScriptMachineLaws.{stops_in_one}
use Rattle.command_laws.proofs.scripts.a_stop_is_in_one_item.Goals as goal

pub returns : goal.returns
returns c = stops_in_one
