use Rattle.command_laws.proofs.TextInputs.{no_item_begins, no_pulse_begins}
use Rattle.command_laws.proofs.texts.no_item_begins_another.Goals as goal

pub returns-clause-script : goal.returns-clause-script
returns-clause-script c = no_item_begins

pub returns-clause-pulses : goal.returns-clause-pulses
returns-clause-pulses c = no_pulse_begins
