use Rattle.erasure_solve.proofs.Blocks.{only_block}
use Rattle.erasure_solve.proofs.laws.one_solution.Goals as goal

pub returns : goal.returns
returns c = only_block
