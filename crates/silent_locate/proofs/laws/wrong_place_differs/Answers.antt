use Rattle.silent_locate.proofs.Readings.{wrong_place_differs}
use Rattle.silent_locate.proofs.laws.wrong_place_differs.Goals as goal

pub returns : goal.returns
returns c = wrong_place_differs
