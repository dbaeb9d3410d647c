use Rattle.pulse_dialogue.proofs.Inputs.{each_recording}
use Rattle.pulse_dialogue.proofs.laws.each_input_is_a_recording.Goals as goal

pub returns : goal.returns
returns c = each_recording
