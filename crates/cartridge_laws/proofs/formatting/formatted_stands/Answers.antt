use Rattle.cartridge_laws.proofs.FormatDone.{formatted_stands, formatted_is_live, formatted_is_marked}
use Rattle.cartridge_laws.proofs.formatting.formatted_stands.Goals as goal

pub returns-clause-empty : goal.returns-clause-empty
returns-clause-empty c = formatted_stands

pub returns-clause-live : goal.returns-clause-live
returns-clause-live c = formatted_is_live

pub returns-clause-marked : goal.returns-clause-marked
returns-clause-marked c = formatted_is_marked
