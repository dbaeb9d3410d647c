use Rattle.table_salvage.proofs.TableData.{whole_as}
use Rattle.table_salvage.proofs.reading.read_table.Goals as goal

pub returns-in-Sectors-clause-area : goal.returns-in-Sectors-clause-area
returns-in-Sectors-clause-area c =
    whole_as c.args.form c.args.zero_lost c.args.usable c.args.unread c.args.sectors.now c.read_whole_table.new.sectors
    c.read_whole_table.result c.in-Sectors.is c.if-usable-eq-WHOLE.true c.read_whole_table.ensures.area
