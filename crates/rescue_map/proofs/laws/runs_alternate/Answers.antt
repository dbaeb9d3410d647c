use Rattle.rescue_map.proofs.RunLaws.{runs_alternate}
use Rattle.rescue_map.proofs.laws.runs_alternate.Goals as goal

pub returns : goal.returns
returns c = runs_alternate
