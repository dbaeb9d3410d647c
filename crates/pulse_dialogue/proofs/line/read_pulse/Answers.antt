use Rattle.pulse_dialogue.proofs.Lines.{no_line_plain}
use Rattle.pulse_dialogue.proofs.line.read_pulse.Goals as goal

pub returns-in-Some : goal.returns-in-Some
returns-in-Some c = record { spelled = c.in-Some.ensures.digits; nine = c.in-Some.ensures.nine }

pub returns-in-None : goal.returns-in-None
returns-in-None c = no_line_plain c.args.text.now c.in-None.ensures c.requires
