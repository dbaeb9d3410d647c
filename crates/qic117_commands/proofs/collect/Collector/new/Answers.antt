use Rattle.std.proofs.Common.{refl}
use Rattle.qic117_commands.specs.Digits.{digits}
use Rattle.qic117_commands.proofs.collect.Collector.new.Goals as goal

pub returns : goal.returns
unfolding digits
returns c = refl
