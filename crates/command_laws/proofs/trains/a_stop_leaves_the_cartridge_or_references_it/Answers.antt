use Rattle.command_laws.proofs.PulseStopping.{stops_leave}
use Rattle.command_laws.proofs.trains.a_stop_leaves_the_cartridge_or_references_it.Goals as goal

pub returns : goal.returns
returns c = stops_leave
