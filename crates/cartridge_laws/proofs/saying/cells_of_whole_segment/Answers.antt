use Rattle.cartridge_laws.proofs.Segments.{places_of_whole, cells_of_whole}
use Rattle.cartridge_laws.proofs.saying.cells_of_whole_segment.Goals as goal

pub returns-clause-places : goal.returns-clause-places
returns-clause-places c = places_of_whole

pub returns-clause-cells : goal.returns-clause-cells
returns-clause-cells c = cells_of_whole
