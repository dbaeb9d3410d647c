use Rattle.drive_states.proofs.Rows.{IsSoundRecord-row}
use Rattle.drive_states.proofs.laws.rows_keep_bounds.Goals as goal

pub returns : goal.returns
returns c = IsSoundRecord-row
