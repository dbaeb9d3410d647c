use Rattle.std.proofs.Common.{◌∙◌, ap}
use Rattle.volume_copy.specs.Lines.{status_code}
use Rattle.tape_dup.proofs.finish_over.Goals as goal

pub returns-clause-whole : goal.returns-clause-whole
returns-clause-whole c = λ whole. c.exit_status.ensures ∙ ap status_code (c.status_over-status.ensures.whole whole)
