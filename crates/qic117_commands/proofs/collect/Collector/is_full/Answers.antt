use Rattle.std.proofs.Common.{refl}
use Rattle.qic117_commands.proofs.DigitFacts.{length-digits}
use Rattle.qic117_commands.proofs.collect.Collector.is_full.Goals as goal

pub returns : goal.returns
returns c =
    let own = c.self.inside in
    rw (← c.self.view_is, length-digits own.count own.levels) refl
