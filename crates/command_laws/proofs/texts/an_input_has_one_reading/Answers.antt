use Rattle.command_spec.specs.Input.{IsItem, IsPulse}
use Rattle.command_laws.proofs.TextInputs.{one_reading, items, pulses}
use Rattle.command_laws.proofs.texts.an_input_has_one_reading.Goals as goal

pub returns-clause-script : goal.returns-clause-script
returns-clause-script c = one_reading IsItem items

pub returns-clause-pulses : goal.returns-clause-pulses
returns-clause-pulses c = one_reading IsPulse pulses
