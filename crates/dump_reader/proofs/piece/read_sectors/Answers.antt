use Rattle.dump_reader.proofs.Sectors.{holds_sectors}
use Rattle.dump_reader.proofs.piece.read_sectors.Goals as goal

pub returns-clause-sectors : goal.returns-clause-sectors
returns-clause-sectors g c = λ dump is.
    holds_sectors (g.D.Disk.means.told c.args.disk.now) dump c.args.rescued.now _ c.put_sectors.new.sectors c.from.result
    c.args.start c.args.count c.in_ok-len.len c.unread_sectors.result c.from.ensures is c.requires.few c.in_ok-len.ensures.amount
    c.in_ok-len.ensures.given
    c.put_sectors.ensures c.unread_sectors.ensures
