use Rattle.rescue_map.proofs.Cutting.{ended_cut}
use Rattle.rescue_map.proofs.scan.Scan.settle.Goals as goal

pub returns-else-not-ended : goal.returns-else-not-ended
returns-else-not-ended c = λ line scanned. ended_cut c.args.self.now line c.args.ended c.if-not-ended.false scanned
