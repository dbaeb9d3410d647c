use Rattle.drive_states.proofs.Marks.{gap_steps-none}
use Rattle.drive_states.proofs.laws.one_train_writes.Goals as goal

pub returns : goal.returns
returns c = gap_steps-none
