use Rattle.cartridge_laws.proofs.FreshArea.{fresh_area_exists}
use Rattle.cartridge_laws.proofs.fresh_headers.fresh_area_exists.Goals as goal

pub returns : goal.returns
returns c = fresh_area_exists
