use Rattle.sure_map.proofs.Mapping.{map_ends}
use Rattle.sure_map.proofs.map.SureMap.finish.Goals as goal

pub returns-then-self-eq0-clause-whole : goal.returns-then-self-eq0-clause-whole
returns-then-self-eq0-clause-whole g c = map_ends c.args.self.now

pub returns-else-self-eq0-clause-whole : goal.returns-else-self-eq0-clause-whole
returns-else-self-eq0-clause-whole g c = map_ends c.args.self.now
