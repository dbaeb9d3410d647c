use Rattle.cartridge_laws.proofs.Segments.{zero_does_not_read}
use Rattle.cartridge_laws.proofs.Zeros.{zero_says_zero, zero_has_no_signature}
use Rattle.cartridge_laws.proofs.saying.zero_says_no_header.Goals as goal

pub returns-clause-says : goal.returns-clause-says
returns-clause-says c = zero_says_zero

pub returns-clause-signature : goal.returns-clause-signature
returns-clause-signature c = zero_has_no_signature

pub returns-clause-copy : goal.returns-clause-copy
returns-clause-copy c = zero_does_not_read
