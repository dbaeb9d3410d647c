use Rattle.std.proofs.Common.{refl}
use Rattle.qic_base.specs.Cartridge.{lost_places}
use Rattle.qic_base.specs.Field.{filled}
use Rattle.command_laws.proofs.worked_values.appending.Goals as goal

pub returns-clause-pieces : goal.returns-clause-pieces
unfolding lost_places filled
returns-clause-pieces c = refl

pub returns-clause-promised : goal.returns-clause-promised
returns-clause-promised c = refl

pub returns-clause-takes_none : goal.returns-clause-takes_none
returns-clause-takes_none c = refl

pub returns-clause-full : goal.returns-clause-full
returns-clause-full c = refl

pub returns-clause-short : goal.returns-clause-short
returns-clause-short c = refl
