use Rattle.std.proofs.Common.{◌≡◌, ◌≤◌}
use Rattle.rescue_map.specs.Reads.{left_of, IsAhead}
use Rattle.rescue_map.proofs.Following.{SoFar}
use Rattle.rescue_map.proofs.reading.read_map.Given as goal

abbrev pub invariant-loop-line : goal.invariant-loop-line
invariant-loop-line g l = record {
  far : SoFar (g.S.Source.means.left l.fn.source) (left_of g.S.Source.means l.source l.buffer l.ahead) l.mask l.progress.expected
      l.progress.from l.line;
  within : IsAhead l.buffer l.ahead;
  kept : g.S.Source.means.keeps l.fn.source l.source;
  later : g.S.Source.means.faults l.source ≡ g.S.Source.means.faults l.fn.source;
}
