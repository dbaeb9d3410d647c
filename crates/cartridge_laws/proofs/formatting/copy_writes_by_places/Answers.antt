use Rattle.cartridge_laws.proofs.FormatPlaces.{copy_writes_by_places}
use Rattle.cartridge_laws.proofs.formatting.copy_writes_by_places.Goals as goal

pub returns : goal.returns
returns c = copy_writes_by_places
