use Rattle.cartridge_laws.proofs.FreshFront.{first_defect_or_none, first_defect_is_none, first_defect_is_one}
use Rattle.cartridge_laws.proofs.fresh_headers.first_defect_or_none.Goals as goal

pub returns-clause-found : goal.returns-clause-found
returns-clause-found c = first_defect_or_none

pub returns-clause-apart : goal.returns-clause-apart
returns-clause-apart c = first_defect_is_none

pub returns-clause-one : goal.returns-clause-one
returns-clause-one c = first_defect_is_one
