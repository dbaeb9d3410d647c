-- What the cell of a sector is read as.
use Rattle.std.proofs.Common.{true, false, refl, ap, arith}
use Rattle.std.proofs.lemmas.List.{take_all}
use Rattle.qic_base.specs.declared.tape.SectorView.TheVariants.{Holds}
use Rattle.cart_image.specs.Layout.{formed_cell}
use Rattle.flat_dump.specs.ImageLaws.{CellShows}

pub cell_shows : CellShows
unfolding formed_cell
cell_shows true bytes size = ap Holds (take_all 1024 bytes (omega arith))
cell_shows false bytes size = refl
