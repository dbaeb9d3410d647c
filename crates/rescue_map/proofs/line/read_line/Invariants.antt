use Rattle.std.proofs.Common.{◌≡◌, ◌≤◌}
use Rattle.rescue_map.specs.Reads.{left_of, IsAhead}
use Rattle.rescue_map.proofs.Lining.{LineSoFar}
use Rattle.rescue_map.proofs.line.read_line.Given as goal

abbrev pub invariant-loop-read : goal.invariant-loop-read
invariant-loop-read g l = record {
  far : LineSoFar (left_of g.S.Source.means l.initial.source l.initial.buffer l.initial.ahead)
      (left_of g.S.Source.means l.source l.buffer l.ahead) l.scan l.read;
  within : IsAhead l.buffer l.ahead;
  kept : g.S.Source.means.keeps l.initial.source l.source;
  later : g.S.Source.means.faults l.source ≡ g.S.Source.means.faults l.initial.source;
}
