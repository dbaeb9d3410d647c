use Rattle.std.proofs.Common.{refl}
use Rattle.qic_base.specs.Cartridge.{lost_places}
use Rattle.cartridge_laws.proofs.worked_values.room.Goals as goal

pub returns-clause-empty : goal.returns-clause-empty
unfolding lost_places
returns-clause-empty c = refl

pub returns-clause-free : goal.returns-clause-free
unfolding lost_places
returns-clause-free c = refl

pub returns-clause-one : goal.returns-clause-one
unfolding lost_places
returns-clause-one c = refl

pub returns-clause-two : goal.returns-clause-two
unfolding lost_places
returns-clause-two c = refl

pub returns-clause-no_byte : goal.returns-clause-no_byte
unfolding lost_places
returns-clause-no_byte c = refl

pub returns-clause-all : goal.returns-clause-all
unfolding lost_places
returns-clause-all c = refl

pub returns-clause-few_usable : goal.returns-clause-few_usable
unfolding lost_places
returns-clause-few_usable c = refl

pub returns-clause-too_few : goal.returns-clause-too_few
unfolding lost_places
returns-clause-too_few c = refl
