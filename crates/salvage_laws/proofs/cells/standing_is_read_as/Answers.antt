use Rattle.salvage_laws.proofs.Standing.{standing_is_read_as}
use Rattle.salvage_laws.proofs.cells.standing_is_read_as.Goals as goal

pub returns : goal.returns
returns c = standing_is_read_as
