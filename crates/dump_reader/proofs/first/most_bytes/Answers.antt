use Rattle.std.proofs.Common.{ℕ, ◌*◌, ap₂, ◌∙◌, arith}
use Rattle.dump_reader.proofs.Counting.{there_same}
use Rattle.dump_reader.proofs.first.most_bytes.Goals as goal

pub returns : goal.returns
returns c = λ spans is.
    ap₂ (λ (bytes : ℕ) (segments : ℕ). bytes * segments) c.longest_piece.ensures.longest
    (c.from.ensures ∙ c.count_there.ensures.there
    ∙ there_same spans c.args.missing.now c.args.first is c.requires (omega (arith, c.ranges.first.fits)))
