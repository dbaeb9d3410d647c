use Rattle.cartridge_laws.proofs.TableSayings.{table_says_always}
use Rattle.cartridge_laws.proofs.saying.table_says_always.Goals as goal

pub returns : goal.returns
returns c = table_says_always
