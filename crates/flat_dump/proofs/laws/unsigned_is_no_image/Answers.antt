use Rattle.flat_dump.proofs.Stops.{unsigned_none}
use Rattle.flat_dump.proofs.laws.unsigned_is_no_image.Goals as goal

pub returns : goal.returns
returns c = unsigned_none
