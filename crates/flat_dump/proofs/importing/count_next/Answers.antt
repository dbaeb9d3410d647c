use Rattle.std.proofs.Common.{arith}
use Rattle.flat_dump.proofs.Copying.{counts_next, gave_next}
use Rattle.flat_dump.proofs.importing.count_next.Goals as goal

pub returns-in-Ok-clause-counts : goal.returns-in-Ok-clause-counts
returns-in-Ok-clause-counts g c =
    counts_next (g.S.Source.means.left c.args.source.now) c.read.new.into c.in-Ok.count
    (omega (arith, c.in-Ok.ensures.within, c.read.auto.into)) c.in-Ok.ensures.gives

pub returns-in-Ok-clause-gave : goal.returns-in-Ok-clause-gave
returns-in-Ok-clause-gave g c =
    gave_next g.S.Source.means c.args.source.now c.read.new.self c.read.new.into c.in-Ok.count (omega (arith, c.read.auto.into))
    (omega (arith, c.in-Ok.ensures.within, c.read.auto.into)) c.in-Ok.ensures.gives c.in-Ok.ensures.left
