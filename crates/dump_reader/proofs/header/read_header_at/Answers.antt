use Rattle.std.proofs.Common.{ℕ, [], take, sym, ap, ◌∙◌}
use Rattle.dump_spec.specs.Pieces.{all_usable, has_piece}
use Rattle.dump_reader.proofs.HeaderFound.{tells_header, tells_none}
use Rattle.dump_reader.proofs.header.read_header_at.Goals as goal

pub returns-then-not-has_piece-clause-header : goal.returns-then-not-has_piece-clause-header
returns-then-not-has_piece-clause-header g c = λ dump layout by.
    tells_none dump layout c.args.zero_lost c.args.segment []
    (ap (λ (s : ℕ). has_piece dump (all_usable layout) s) (sym c.in_ok-unread.ensures.at)
    ∙ sym (c.has_piece.ensures dump (all_usable layout) by.laid by.long) ∙ c.if-not-has_piece.true)

pub returns-clause-header : goal.returns-clause-header
returns-clause-header g c = λ dump layout by.
    tells_header c.args.known.now (g.D.Disk.means.told c.args.disk.now) dump layout c.args.zero_lost c.args.segment c.in_ok-unread.unread
    c.read_piece.new.sectors (take 29 c.read_header.new.sectors) c.read_header.result by c.requires.there
    (c.in_ok-unread.ensures.cells dump (all_usable layout) by)
    (ap (λ (s : ℕ). has_piece dump (all_usable layout) s) (sym c.in_ok-unread.ensures.at)
    ∙ sym (c.has_piece.ensures dump (all_usable layout) by.laid by.long) ∙ c.if-not-has_piece.false)
    c.read_header.ensures.header c.read_header.ensures.none
