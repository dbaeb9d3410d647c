use Rattle.flat_dump.proofs.Maps.{each_map_tells}
use Rattle.flat_dump.proofs.laws.maps_tell_what_is_held.Goals as goal

pub returns : goal.returns
returns c = each_map_tells
