use Rattle.command_laws.proofs.CopyComplete.{copy_with_room_is_done}
use Rattle.command_laws.proofs.copying.a_copy_with_room_is_done.Goals as goal

pub returns : goal.returns
returns c = copy_with_room_is_done
