use Rattle.dump_output.proofs.Turns.{fronts_begin}
use Rattle.dump_output.proofs.laws.fronts_begin.Goals as goal

pub returns : goal.returns
returns c = fronts_begin
