use Rattle.cartridge_laws.proofs.FormatCopies.{new_has_no_header}
use Rattle.cartridge_laws.proofs.formatting.new_has_no_header.Goals as goal

pub returns : goal.returns
returns c = new_has_no_header
