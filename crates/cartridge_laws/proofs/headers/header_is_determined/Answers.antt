use Rattle.cartridge_laws.proofs.HeaderReadingLaws.{header_is_determined}
use Rattle.cartridge_laws.proofs.headers.header_is_determined.Goals as goal

pub returns : goal.returns
returns c = header_is_determined
