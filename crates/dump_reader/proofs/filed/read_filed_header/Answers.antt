use Rattle.dump_reader.proofs.Filling.{filed_told}
use Rattle.dump_reader.proofs.filed.read_filed_header.Goals as goal

pub returns-clause-area : goal.returns-clause-area
returns-clause-area g c =
    filed_told (g.D.Disk.means.told c.args.disk.now) _ _ c.put_sectors.new.sectors c.in_ok-len.len c.in_ok-len.ensures.amount
    c.in_ok-len.ensures.given c.clear_behind.ensures c.put_sectors.ensures
