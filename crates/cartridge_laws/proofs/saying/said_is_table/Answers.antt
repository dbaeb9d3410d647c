use Rattle.cartridge_laws.proofs.TableSayings.{said_is_table}
use Rattle.cartridge_laws.proofs.saying.said_is_table.Goals as goal

pub returns : goal.returns
returns c = said_is_table
