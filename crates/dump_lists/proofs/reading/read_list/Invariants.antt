use Rattle.std.proofs.Common.{◌≡◌}
use Rattle.rescue_map.specs.Reads.{left_of, IsAhead}
use Rattle.dump_lists.specs.Names.{bits_named}
use Rattle.dump_lists.proofs.Following.{SoFar}
use Rattle.dump_lists.proofs.reading.read_list.Given as goal

abbrev pub invariant-loop-number : goal.invariant-loop-number
invariant-loop-number g l = record {
  far : SoFar (bits_named l.kind) (g.S.Source.means.left l.fn.source) (left_of g.S.Source.means l.source l.buffer l.ahead) l.mask l.number;
  within : IsAhead l.buffer l.ahead;
  kept : g.S.Source.means.keeps l.fn.source l.source;
  later : g.S.Source.means.faults l.source ≡ g.S.Source.means.faults l.fn.source;
}
