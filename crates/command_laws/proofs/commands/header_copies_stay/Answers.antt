use Rattle.command_laws.proofs.CommandTable as copies
use Rattle.command_laws.proofs.commands.header_copies_stay.Goals as goal

pub returns-clause-clean : goal.returns-clause-clean
returns-clause-clean c = copies.copies_stay_clean

pub returns-clause-bare : goal.returns-clause-bare
returns-clause-bare c = copies.copies_stay_bare
