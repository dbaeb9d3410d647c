use Rattle.pulse_dialogue.proofs.Lines.{no_line_sampled, sampled}
use Rattle.pulse_dialogue.proofs.line.read_sample.Goals as goal

pub returns-in-Some : goal.returns-in-Some
returns-in-Some c =
    sampled c.args.text.now c.in-Some.time c.args.level c.requires.two c.requires.space c.in-Some.ensures c.requires.digit

pub returns-in-None : goal.returns-in-None
returns-in-None c =
    no_line_sampled c.args.text.now c.requires.two c.requires.space (λ time level number digit. c.in-None.ensures time number)
