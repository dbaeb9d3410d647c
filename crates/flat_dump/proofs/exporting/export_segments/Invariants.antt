use Rattle.std.proofs.Common.{◌≡◌, ◌≤◌, []}
use Rattle.std.specs.Vec.{vec_len, vec_capacity}
use Rattle.qic_base.specs.Tape.{Done}
use Rattle.rescue_map.specs.Laws.{most_words}
use Rattle.flat_dump.proofs.Dumping.{SoFar}
use Rattle.flat_dump.proofs.exporting.export_segments.Given as goal

abbrev pub invariant-loop-segment : goal.invariant-loop-segment
invariant-loop-segment g l = record {
  did : Done g.T.Tape.means l.initial.tape l.tape [];
  size : g.T.Tape.means.size l.tape ≡ g.T.Tape.means.size l.initial.tape;
  words : vec_len l.mask ≡ l.segment;
  capacity : most_words ≤ vec_capacity l.mask;
  so_far : SoFar g.T.Tape.means g.K.Sink.means l.initial.tape l.initial.sink l.sink l.segment l.mask.items;
}
