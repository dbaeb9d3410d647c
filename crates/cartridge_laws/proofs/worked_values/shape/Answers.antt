use Rattle.std.proofs.Common.{refl}
use Rattle.qic_base.specs.Cartridge.{lost_places}
use Rattle.cartridge_laws.proofs.worked_values.shape.Goals as goal

pub returns-clause-whole : goal.returns-clause-whole
unfolding lost_places
returns-clause-whole c = refl

pub returns-clause-four : goal.returns-clause-four
unfolding lost_places
returns-clause-four c = refl

pub returns-clause-three : goal.returns-clause-three
unfolding lost_places
returns-clause-three c = refl

pub returns-clause-places : goal.returns-clause-places
unfolding lost_places
returns-clause-places c = refl

pub returns-clause-marks : goal.returns-clause-marks
unfolding lost_places
returns-clause-marks c = refl

pub returns-clause-new : goal.returns-clause-new
returns-clause-new c = refl
