use Rattle.command_laws.proofs.MadeComplete.{made_where_there_is_room}
use Rattle.command_laws.proofs.generated.a_run_with_room_is_carried_out.Goals as goal

pub returns : goal.returns
returns c = made_where_there_is_room
