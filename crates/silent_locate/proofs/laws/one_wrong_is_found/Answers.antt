use Rattle.silent_locate.proofs.Readings.{one_wrong_is_found}
use Rattle.silent_locate.proofs.laws.one_wrong_is_found.Goals as goal

pub returns : goal.returns
returns c = one_wrong_is_found
