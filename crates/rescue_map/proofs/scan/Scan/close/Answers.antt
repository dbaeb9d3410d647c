use Rattle.std.proofs.Common.{◌∙◌}
use Rattle.rescue_map.proofs.Cutting.{close_some}
use Rattle.rescue_map.proofs.scan.Scan.close.Goals as goal

pub returns-then-self-gt0-clause-words : goal.returns-then-self-gt0-clause-words
returns-then-self-gt0-clause-words c = λ over begun are is.
    close_some c.args.self.now c.push.new.self over begun
    (λ list bytes here word. c.push.ensures list bytes here (c.read_word-word.ensures ∙ word))
    c.if-self-gt0.true are is
