use Rattle.silent_locate.proofs.Readings.{one_deep_reading}
use Rattle.silent_locate.proofs.laws.one_deep_reading.Goals as goal

pub returns : goal.returns
returns c = one_deep_reading
