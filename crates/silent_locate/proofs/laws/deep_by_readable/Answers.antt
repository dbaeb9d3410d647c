use Rattle.silent_locate.proofs.Readings.{deep_by_readable}
use Rattle.silent_locate.proofs.laws.deep_by_readable.Goals as goal

pub returns : goal.returns
returns c = deep_by_readable
