use Rattle.cartridge_laws.proofs.Blocks.{says_always}
use Rattle.cartridge_laws.proofs.saying.says_always.Goals as goal

pub returns : goal.returns
returns c = says_always
