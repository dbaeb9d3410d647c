use Rattle.cartridge_laws.proofs.FormatDone.{formatting_formats}
use Rattle.cartridge_laws.proofs.formatting.formatting_formats.Goals as goal

pub returns : goal.returns
returns c = formatting_formats
