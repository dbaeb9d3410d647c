use Rattle.std.proofs.Common.{◌∙◌}
use Rattle.cartridge_spec.specs.Says.{whole_mask}
use Rattle.segment_salvage.specs.Buffer.{buffer_cells}
use Rattle.segment_salvage.proofs.ReadingWhole.{reads_where_found, none_where_not, reads_where_none_lost, none_where_lost}
use Rattle.segment_salvage.proofs.header.reads_whole.Goals as goal

pub returns-in-Sectors-clause-reads : goal.returns-in-Sectors-clause-reads
returns-in-Sectors-clause-reads c =
    reads_where_found c.args.form c.args.zero_lost (buffer_cells c.args.form whole_mask c.args.unread c.args.sectors.now)
    c.salvage-reading.result c.salvage-reading.new.sectors c.has_block.result c.in-Sectors.is c.salvage-reading.ensures c.has_block.ensures

pub returns-in-Sectors-clause-none : goal.returns-in-Sectors-clause-none
returns-in-Sectors-clause-none c =
    none_where_not c.args.form c.args.zero_lost (buffer_cells c.args.form whole_mask c.args.unread c.args.sectors.now)
    c.salvage-reading.result c.salvage-reading.new.sectors c.has_block.result c.in-Sectors.is c.salvage-reading.ensures c.has_block.ensures

pub returns-in-Data-clause-reads : goal.returns-in-Data-clause-reads
returns-in-Data-clause-reads c =
    reads_where_none_lost c.args.form c.args.zero_lost c.args.unread c.args.sectors.now c.salvage-reading.result
    c.salvage-reading.new.sectors c.count.result c.in-Data.is c.salvage-reading.ensures (c.salvage-reading.auto.sectors ∙ c.requires)
    c.count.ensures

pub returns-in-Data-clause-none : goal.returns-in-Data-clause-none
returns-in-Data-clause-none c =
    none_where_lost c.args.form c.args.zero_lost (buffer_cells c.args.form whole_mask c.args.unread c.args.sectors.now)
    c.salvage-reading.result c.salvage-reading.new.sectors c.count.result c.in-Data.is c.salvage-reading.ensures c.count.ensures
