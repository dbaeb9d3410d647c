use Rattle.salvage_laws.proofs.Headers.{header_is_in_force}
use Rattle.salvage_laws.proofs.Masks.{masks_are_of_map}
use Rattle.salvage_laws.proofs.cells.header_is_in_force.Goals as goal

pub returns : goal.returns
returns c = record { header = header_is_in_force; masks = masks_are_of_map }
