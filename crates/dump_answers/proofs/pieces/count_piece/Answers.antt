use Rattle.std.proofs.Common.{refl, sym, ◌∙◌}
use Rattle.dump_answers.proofs.Counting.{counts_piece, counts_same}
use Rattle.dump_answers.proofs.pieces.count_piece.Goals as goal

pub returns-then-not-has_piece-clause-next : goal.returns-then-not-has_piece-clause-next
returns-then-not-has_piece-clause-next c = λ dump layout laid long so.
    counts_same dump layout c.args.counts c.args.cursor.now.segment so
    (sym (c.has_piece.ensures dump layout laid long) ∙ c.if-not-has_piece.true)

pub returns-clause-next : goal.returns-clause-next
returns-clause-next c = λ dump layout laid long so.
    counts_piece dump layout c.args.counts _ c.args.cursor.now.segment _ c.bad_sectors-bad.result so
    (sym (c.has_piece.ensures dump layout laid long) ∙ c.if-not-has_piece.false)
    (laid.masks c.args.cursor.now.segment c.requires.there.mask) c.bad_sectors-bad.ensures.bad refl refl
