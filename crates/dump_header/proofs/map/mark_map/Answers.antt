use Rattle.std.proofs.Common.{◌<◌, ◌≤◌, length, inl, inr, ⊎_elim, arith}
use Rattle.std.proofs.lemmas.Bool.{cases_lt}
use Rattle.dump_header.proofs.Bits.{mapped}
use Rattle.dump_header.proofs.map.mark_map.Goals as goal

pub returns : goal.returns
returns c =
    mapped c.args.area.now c.args.words.now c.loop-segment.words c.loop-segment.segment (omega arith)
    (⊎_elim (λ (h : length c.args.words.now < 6912). inl (omega arith)) (λ (h : 6912 ≤ length c.args.words.now). inr (omega arith))
    (cases_lt (length c.args.words.now) 6912)) (omega arith) c.loop-segment.invariant.done c.loop-segment.invariant.kept
