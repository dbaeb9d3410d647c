use Rattle.dump_laws.proofs.Blocks.{sure_is_the_block}
use Rattle.dump_laws.proofs.cells_alone.sure_is_the_block.Goals as goal

pub returns : goal.returns
returns c = sure_is_the_block
