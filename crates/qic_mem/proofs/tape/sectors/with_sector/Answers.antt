use Rattle.std.proofs.Common.{◌==◌, ◌∙◌, sym, ap}
use Rattle.std.specs.Int.{w32}
use Rattle.std.proofs.lemmas.Nat.Bits.{bit_at_set_same, bit_at_set_other}
use Rattle.qic_mem.proofs.tape.sectors.with_sector.Goals as goal

pub returns-then-is_more-clause-same : goal.returns-then-is_more-clause-same
returns-then-is_more-clause-same c =
    ap (λ bit. bit == 1) (bit_at_set_same w32 c.args.set c.args.sector c.requires.place) ∙ sym c.if-is_more.true

pub returns-then-is_more-clause-others : goal.returns-then-is_more-clause-others
returns-then-is_more-clause-others c = λ i apart.
    ap (λ bit. bit == 1) (bit_at_set_other w32 c.args.set c.args.sector c.requires.place i apart)
