use Rattle.std.proofs.Common.{refl}
use Rattle.qic_base.specs.Cartridge.{lost_places}
use Rattle.qic_base.specs.Field.{number_at}
use Rattle.dump_laws.proofs.worked_values.pieces.Goals as goal

pub returns-clause-of_data : goal.returns-clause-of_data
unfolding number_at lost_places
returns-clause-of_data c = refl

pub returns-clause-no_header : goal.returns-clause-no_header
unfolding number_at lost_places
returns-clause-no_header c = refl

pub returns-clause-header : goal.returns-clause-header
unfolding number_at lost_places
returns-clause-header c = refl

pub returns-clause-cells : goal.returns-clause-cells
unfolding number_at lost_places
returns-clause-cells c = refl

pub returns-clause-cut : goal.returns-clause-cut
unfolding number_at lost_places
returns-clause-cut c = refl

pub returns-clause-cells_of_data : goal.returns-clause-cells_of_data
unfolding number_at lost_places
returns-clause-cells_of_data c = refl

pub returns-clause-cells_of_missing : goal.returns-clause-cells_of_missing
unfolding number_at lost_places
returns-clause-cells_of_missing c = refl
