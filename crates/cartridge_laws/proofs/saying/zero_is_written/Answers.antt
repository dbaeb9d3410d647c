use Rattle.cartridge_laws.proofs.Zeros.{zero_is_written}
use Rattle.cartridge_laws.proofs.saying.zero_is_written.Goals as goal

pub returns : goal.returns
returns c = zero_is_written
