use Rattle.std.proofs.Common.{ℕ, sym, ap, subst, ◌∙◌}
use Rattle.std.proofs.lemmas.Result.{IfOk-weaker}
use Rattle.dump_spec.specs.Pieces.{has_piece}
use Rattle.dump_reader.proofs.CellsRead.{cells_absent, cells_there}
use Rattle.dump_reader.specs.Laid.{start_in}
use Rattle.dump_reader.specs.Piece.{HoldsSectors}
use Rattle.dump_reader.proofs.reading.read_piece.Goals as goal

pub returns-then-not-has_piece-clause-cells : goal.returns-then-not-has_piece-clause-cells
returns-then-not-has_piece-clause-cells g c = λ dump of by.
    cells_absent c.args.known.now of dump c.args.segment c.from_mask.result c.args.sectors.now c.from_mask.ensures by.laid c.requires.there
    (ap (λ (s : ℕ). has_piece dump of s) (sym c.go_to.ensures.segment)
    ∙ sym (c.has_piece.ensures dump of by.laid by.long) ∙ c.if-not-has_piece.true)

pub returns-clause-cells : goal.returns-clause-cells
returns-clause-cells g c =
    IfOk-weaker c.read_sectors.result _ _
    (λ unread holds. λ dump of by.
    cells_there c.args.known.now of dump c.args.segment c.go_to.new.self.start unread c.read_sectors.new.sectors by.laid c.requires.there
    (ap (λ (s : ℕ). has_piece dump of s) (sym c.go_to.ensures.segment)
    ∙ sym (c.has_piece.ensures dump of by.laid by.long) ∙ c.if-not-has_piece.false)
    (c.go_to.ensures.placed.start ∙ ap (λ (s : ℕ). start_in c.args.known.now s) c.go_to.ensures.segment)
    (subst (λ (n : ℕ). HoldsSectors dump c.go_to.new.self.start n unread c.read_sectors.new.sectors)
    c.piece_sectors-count.ensures.sectors (holds dump by.is)))
    c.read_sectors.ensures.sectors
