use Rattle.cartridge_laws.proofs.Hiding.{nothing_is_hidden, says_by_none}
use Rattle.cartridge_laws.proofs.saying.nothing_is_hidden.Goals as goal

pub returns-clause-cells : goal.returns-clause-cells
returns-clause-cells c = nothing_is_hidden

pub returns-clause-says : goal.returns-clause-says
returns-clause-says c = says_by_none
