use Rattle.cartridge_laws.proofs.Sayings.{says_is_function}
use Rattle.cartridge_laws.proofs.saying.says_is_function.Goals as goal

pub returns : goal.returns
returns c = says_is_function
