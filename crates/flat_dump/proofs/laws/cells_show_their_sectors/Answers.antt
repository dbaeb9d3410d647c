use Rattle.flat_dump.proofs.Celling.{cell_shows}
use Rattle.flat_dump.proofs.laws.cells_show_their_sectors.Goals as goal

pub returns : goal.returns
returns c = cell_shows
