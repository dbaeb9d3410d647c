use Rattle.drive_states.proofs.Marks.{cartridge-gap}
use Rattle.drive_states.proofs.laws.rows_keep_marks.Goals as goal

pub returns : goal.returns
returns c = cartridge-gap
