use Rattle.segment_parity.proofs.Rows.{holds_more}
use Rattle.qic_base.proofs.Arrays.{sector_from}
use Rattle.segment_parity.proofs.Parity.push.Goals as goal

pub returns-clause-sectors : goal.returns-clause-sectors
returns-clause-sectors c = λ ss holds.
    holds_more c.args.self.now c.shift_in.new.register c.args.sector.now ss c.requires c.shift_in.array_long
    (sector_from c.args.sector.now c.told-sector c.fits-sector)
    c.shift_in.ensures.columns c.shift_in.ensures.rows holds
