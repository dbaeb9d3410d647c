use Rattle.std.proofs.Common.{arith}
use Rattle.sector_fill.proofs.Sectors.{fills_sectors, fills_front}
use Rattle.sector_fill.proofs.filling.fill_sectors.Goals as goal

pub returns-clause-filled : goal.returns-clause-filled
returns-clause-filled g c =
    rw c.from.ensures (fills_sectors g.S.Source.means c.args.source.now c.fill_bytes.new.source c.args.count c.args.most
    c.fill_bytes.new.into
    c.split_bytes-bytes.result.1.now c.fill_bytes.result
    (omega (arith, c.from.ensures, c.fill_bytes.ensures.size, c.split_bytes-bytes.ensures.size)) c.fill_bytes.ensures.filled)

pub returns-clause-told : goal.returns-clause-told
returns-clause-told g c =
    fills_front g.S.Source.means c.args.source.now c.fill_bytes.new.source c.args.count c.args.most _ c.fill_bytes.result
    (returns-clause-filled g c)
