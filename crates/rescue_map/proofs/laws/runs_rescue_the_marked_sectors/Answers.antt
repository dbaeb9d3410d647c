use Rattle.rescue_map.proofs.RunLaws.{rescues_marked}
use Rattle.rescue_map.proofs.laws.runs_rescue_the_marked_sectors.Goals as goal

pub returns : goal.returns
returns c = rescues_marked
