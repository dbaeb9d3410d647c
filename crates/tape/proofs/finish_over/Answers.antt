use Rattle.std.proofs.Common.{◌∙◌, ap}
use Rattle.tape_cmd.specs.Lines.{status_code}
use Rattle.tape.proofs.finish_over.Goals as goal

pub returns-then-code-ne0-clause-whole : goal.returns-then-code-ne0-clause-whole
returns-then-code-ne0-clause-whole c = λ whole. c.finish-code.ensures ∙ ap status_code (c.status_over-status.ensures.whole whole)
