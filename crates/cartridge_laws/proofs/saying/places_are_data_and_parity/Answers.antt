use Rattle.cartridge_laws.proofs.Shapes.{places_are_data_and_parity}
use Rattle.cartridge_laws.proofs.saying.places_are_data_and_parity.Goals as goal

pub returns : goal.returns
returns c = places_are_data_and_parity
