use Rattle.cartridge_laws.proofs.Segments.{count_of_cells, cells_are_views}
use Rattle.cartridge_laws.proofs.saying.cells_of_segment.Goals as goal

pub returns-clause-count : goal.returns-clause-count
returns-clause-count c = count_of_cells

pub returns-clause-views : goal.returns-clause-views
returns-clause-views c = cells_are_views
