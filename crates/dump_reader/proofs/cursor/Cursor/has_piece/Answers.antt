use Rattle.std.proofs.Common.{◌∙◌}
use Rattle.dump_reader.proofs.Laying.{has_same}
use Rattle.dump_reader.proofs.cursor.Cursor.has_piece.Goals as goal

pub returns : goal.returns
returns c = λ dump layout is long.
    c.is_there.ensures ∙ has_same c.args.known.now c.args.self.now dump layout c.requires.there c.requires.placed is long
