use Rattle.cartridge_laws.proofs.FreshSpelled.{spelled_is_one}
use Rattle.cartridge_laws.proofs.fresh_headers.spelled_is_one.Goals as goal

pub returns : goal.returns
returns c = spelled_is_one
