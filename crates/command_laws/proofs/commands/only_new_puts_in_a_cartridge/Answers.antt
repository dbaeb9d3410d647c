use Rattle.command_laws.proofs.CommandTable as steps
use Rattle.command_laws.proofs.commands.only_new_puts_in_a_cartridge.Goals as goal

pub returns : goal.returns
returns c = steps.only_new_renews
