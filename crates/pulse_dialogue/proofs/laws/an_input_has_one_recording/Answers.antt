use Rattle.pulse_dialogue.proofs.Inputs.{one_recording}
use Rattle.pulse_dialogue.proofs.laws.an_input_has_one_recording.Goals as goal

pub returns : goal.returns
returns c = one_recording
