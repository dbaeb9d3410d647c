use Rattle.std.proofs.Common.{◌≢◌, ◌∷◌, [], ℕ, List, take, sym, subst, arith}
use Rattle.std.proofs.lemmas.List.{take_more_set}
use Rattle.std.proofs.lemmas.List.Elements.{All-push}
use Rattle.qic_base.specs.LineBytes.{NoNewline}
use Rattle.qic_base.specs.SourceCalls.{WereGiven}
use Rattle.qic_base.proofs.Giving.{WereGiven-both}
use Rattle.rescue_map.specs.Reads.{left_of}
use Rattle.dump_lists.proofs.line.read_line.Goals as goal

pub loop-len-preserved : goal.loop-len-preserved
loop-len-preserved g c =
    let m = g.S.Source.means in
    let first = left_of m c.args.source.now c.args.buffer.now c.args.ahead.now in
    let old = left_of m c.loop-len.source c.loop-len.buffer c.loop-len.ahead in
    let new = left_of m c.next_byte.new.source c.next_byte.new.buffer c.next_byte.new.ahead in
    let bytes = take c.loop-len.len c.loop-len.line in
    let took = rw c.in-Ok-Some.field-0-is at c.in-Ok-Some.ensures.took in
    let more = sym (take_more_set c.loop-len.line c.loop-len.len c.in-Ok-Some.byte (omega arith)) in
    record {
      none = subst NoNewline more (All-push (λ (b : ℕ). b ≢ 10) bytes c.in-Ok-Some.byte c.loop-len.invariant.none c.in-Ok-Some.byte-test.1);
      gave = subst (λ (bs : List ℕ). WereGiven first new bs) more
          (WereGiven-both bytes (c.in-Ok-Some.byte ∷ []) first old new c.loop-len.invariant.gave took);
      within = c.in-Ok-Some.ensures.within;
      kept = g.met.S.Source.keeps_on _ _ _ c.loop-len.invariant.kept c.in-Ok-Some.ensures.kept;
      later = let e = c.loop-len.invariant.later in let f = c.in-Ok-Some.ensures.cause.stood in omega arith;
    }
