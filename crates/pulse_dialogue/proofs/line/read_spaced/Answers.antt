use Rattle.pulse_dialogue.proofs.Lines.{no_line_sampled}
use Rattle.pulse_dialogue.proofs.line.read_spaced.Goals as goal

pub returns-in-None : goal.returns-in-None
returns-in-None c =
    no_line_sampled c.args.text.now c.requires.two c.requires.space (λ time level number digit. c.in-None.ensures level digit)
