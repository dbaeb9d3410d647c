use Rattle.salvage_laws.proofs.Views.{sectors_are_views, cells_are_cells}
use Rattle.salvage_laws.proofs.cells.cells_are_those_of_the_cartridge.Goals as goal

pub returns : goal.returns
returns c = record { sectors = sectors_are_views; cells = cells_are_cells }
