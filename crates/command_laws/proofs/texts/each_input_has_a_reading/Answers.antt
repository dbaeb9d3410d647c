use Rattle.command_laws.proofs.TextReadings.{each_script, each_pulses}
use Rattle.command_laws.proofs.texts.each_input_has_a_reading.Goals as goal

pub returns-clause-script : goal.returns-clause-script
returns-clause-script c = each_script

pub returns-clause-pulses : goal.returns-clause-pulses
returns-clause-pulses c = each_pulses
