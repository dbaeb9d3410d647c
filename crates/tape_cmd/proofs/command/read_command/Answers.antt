use Rattle.std.proofs.Common.{map, string_bytes}
use Rattle.command_laws.proofs.CommandTable.{has_values}
use Rattle.tape_cmd.proofs.command.read_command.Goals as goal

pub returns-in-Ok : goal.returns-in-Ok
returns-in-Ok c = (c.in-Ok.ensures, has_values (map string_bytes c.args.words.now.items) c.in-Ok.command c.in-Ok.ensures)

pub returns-in-Err : goal.returns-in-Err
returns-in-Err c = c.in-Err.ensures
