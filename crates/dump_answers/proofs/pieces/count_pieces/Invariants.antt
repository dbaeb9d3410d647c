use Rattle.std.proofs.Common.{◌≡◌, ◌≤◌, ◌*◌, length}
use Rattle.dump_answers.specs.Pieces.{CountsTo}
use Rattle.dump_reader.specs.Laid.{IsLaidOut, IsPlaced}
use Rattle.dump_spec.specs.Dump.{Dump}
use Rattle.dump_spec.specs.Pieces.{Layout}
use Rattle.dump_answers.proofs.pieces.count_pieces.Given as goal

abbrev pub invariant-loop-segment : goal.invariant-loop-segment
invariant-loop-segment l = record {
  counted : (dump : Dump) (layout : Layout) → IsLaidOut l.known layout → length dump.bytes ≡ l.known.bytes →
      CountsTo dump layout l.counts l.segment;
  placed : IsPlaced l.known l.cursor;
  few : l.counts.pieces ≤ l.segment;
  small : l.counts.bad ≤ 32 * l.segment;
}
