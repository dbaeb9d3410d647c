-- The usable sectors below the index are counted, and are no more than the place.
use Rattle.std.proofs.Common.{◌≡◌, ◌≤◌, length}
use Rattle.qic_base.specs.Cartridge.{lost_places}
use Rattle.bad_sector_map.proofs.places.index_at.Given as goal

abbrev pub invariant-loop-index : goal.invariant-loop-index
invariant-loop-index l = record {
  count : l.before ≡ length (lost_places l.usable l.index);
  below : l.before ≤ l.place;
}
