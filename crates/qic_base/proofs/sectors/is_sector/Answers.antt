use Rattle.qic_base.proofs.Arrays.{sector_from}
use Rattle.qic_base.proofs.sectors.is_sector.Goals as goal

pub returns : goal.returns
returns c = sector_from c.args.sector.now c.told-sector c.fits-sector
