use Rattle.qic_base.proofs.OneSector.{chosen_one}
use Rattle.qic_base.proofs.one_sector.put_alone.Goals as goal

pub returns : goal.returns
returns c = chosen_one c.args.sector _ c.args.from.now c.requires c.put_in.ensures
