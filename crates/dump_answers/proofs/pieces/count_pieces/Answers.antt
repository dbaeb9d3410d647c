use Rattle.std.proofs.Common.{ℕ, ◌+◌, refl, sym, subst, arith}
use Rattle.dump_answers.proofs.Counting.{counts_none, counts_all}
use Rattle.dump_answers.specs.Pieces.{CountsTo}
use Rattle.dump_answers.proofs.pieces.count_pieces.Goals as goal

pub loop-segment-init : goal.loop-segment-init
loop-segment-init c = record {
  counted = λ dump layout laid long. counts_none dump layout _ refl refl;
  placed = c.new-cursor.ensures.placed c.args.known.now;
  few = omega arith;
  small = omega arith;
}

pub loop-segment-preserved : goal.loop-segment-preserved
loop-segment-preserved c = record {
  counted = λ dump layout laid long.
      subst (λ (s : ℕ). CountsTo dump layout c.count_piece-counts.result (s + 1)) c.go_to.ensures.segment
      (c.count_piece-counts.ensures.next dump layout laid long
      (subst (λ (s : ℕ). CountsTo dump layout c.loop-segment.counts s) (sym c.go_to.ensures.segment)
      (c.loop-segment.invariant.counted dump layout laid long)));
  placed = c.go_to.ensures.placed;
  few = omega (arith, c.count_piece-counts.ensures.few, c.go_to.ensures.segment);
  small = omega (arith, c.count_piece-counts.ensures.small, c.go_to.ensures.segment);
}

pub returns : goal.returns
returns c = λ dump layout laid long.
    counts_all dump layout c.loop-segment.counts c.loop-segment.segment (omega arith)
    (c.loop-segment.invariant.counted dump layout laid long)
