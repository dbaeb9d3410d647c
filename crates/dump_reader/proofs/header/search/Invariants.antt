-- The disk was only looked at, and no segment below reads as a header.
use Rattle.std.proofs.Common.{◌≡◌, length}
use Rattle.dump_spec.specs.Dump.{Dump}
use Rattle.dump_spec.specs.HeaderPlace.{NoneBelow}
use Rattle.dump_spec.specs.Pieces.{Layout, all_usable}
use Rattle.dump_reader.specs.Laid.{IsPlaced, Describes}
use Rattle.qic_base.specs.Disk.{Look, Stored}
use Rattle.dump_reader.proofs.header.search.Given as goal

abbrev pub invariant-loop-segment : goal.invariant-loop-segment
invariant-loop-segment g l = record {
  did : Stored g.D.Disk.means l.fn.disk l.disk Look;
  none : (dump : Dump) (layout : Layout) → Describes l.known (g.D.Disk.means.told l.fn.disk) dump (all_usable layout) →
      NoneBelow dump layout l.zero_lost l.segment;
  placed : IsPlaced l.known l.cursor;
  room : length l.sectors ≡ 32;
}
