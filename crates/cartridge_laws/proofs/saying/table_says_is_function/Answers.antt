use Rattle.cartridge_laws.proofs.TableSayings.{table_says_is_function}
use Rattle.cartridge_laws.proofs.saying.table_says_is_function.Goals as goal

pub returns : goal.returns
returns c = table_says_is_function
