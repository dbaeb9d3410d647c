use Rattle.command_laws.proofs.ScrubFormsAgain.{second_form_writes_nothing}
use Rattle.command_laws.proofs.deep_scrubbing.second_in_form.Goals as goal

pub returns : goal.returns
returns c = second_form_writes_nothing
