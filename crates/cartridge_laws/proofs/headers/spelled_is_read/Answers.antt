use Rattle.cartridge_laws.proofs.HeaderReadingLaws.{spelled_is_read}
use Rattle.cartridge_laws.proofs.headers.spelled_is_read.Goals as goal

pub returns : goal.returns
returns c = spelled_is_read
