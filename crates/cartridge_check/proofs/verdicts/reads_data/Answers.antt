use Rattle.std.proofs.Common.{refl}
use Rattle.cartridge_check.proofs.verdicts.reads_data.Goals as goal

pub returns-in-TooMany-clause-lost : goal.returns-in-TooMany-clause-lost
returns-in-TooMany-clause-lost c = λ same.
    let many = (c.reading.ensures.too_many c.in-TooMany.lost).0 c.in-TooMany.is in many.0
