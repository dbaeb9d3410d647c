use Rattle.std.proofs.Common.{◌≡◌, ◌≢◌, ◌<◌, ◌+◌, ◌∷◌, ◌++◌, [], inl, inr, length, take, set, arith}
use Rattle.std.proofs.lemmas.List.{take_more_set, length-set, length-take-le}
use Rattle.std.proofs.lemmas.List.Elements.{All-push}
use Rattle.qic_base.proofs.Giving.{Gave-Gave, Gave-end, HasEnded-Gave}
use Rattle.tape_script.proofs.taking.take_line.Goals as goal

pub loop-len-preserved : goal.loop-len-preserved
loop-len-preserved g c =
    let full = c.loop-len.invariant.full in
    let here : c.loop-len.len < length c.loop-len.buffer = omega arith in
    let stored : take (c.loop-len.len + 1) (set c.loop-len.buffer c.loop-len.len c.in-Ok-Some.byte) ≡ take c.loop-len.len
    c.loop-len.buffer ++ c.in-Ok-Some.byte ∷ [] =
    take_more_set c.loop-len.buffer c.loop-len.len c.in-Ok-Some.byte here in
    let took = rw c.in-Ok-Some.field-0-is at c.in-Ok-Some.ensures.took in
    record {
      within = omega arith;
      full = rw length-set full;
      one_line = rw (c.from.ensures, stored)
          (All-push (λ b. b ≢ 0x0A) (take c.loop-len.len c.loop-len.buffer) c.in-Ok-Some.byte c.loop-len.invariant.one_line
          c.in-Ok-Some.byte-test.1);
      gave = rw (c.from.ensures, stored)
          (Gave-Gave g.S.Source.means c.args.source.now c.loop-len.source c.take_byte.new.source (take c.loop-len.len c.loop-len.buffer)
          (c.in-Ok-Some.byte ∷ [])
          c.loop-len.invariant.gave took);
      kept = g.met.S.Source.keeps_on _ _ _ c.loop-len.invariant.kept c.take_byte.ensures.kept;
      later = let e = c.loop-len.invariant.later in let f = c.in-Ok-Some.ensures.cause.stood in omega arith;
    }

pub returns-in-Ok-None-2-clause-took : goal.returns-in-Ok-None-2-clause-took
returns-in-Ok-None-2-clause-took g c =
    let took = rw c.in-Ok-None.field-0-is at c.in-Ok-None.ensures.took in (
      omega arith,
      omega arith,
      (
        take c.loop-len.len c.loop-len.buffer,
        length-take-le c.loop-len.len c.loop-len.buffer (let f = c.loop-len.invariant.full in omega arith),
        c.loop-len.invariant.one_line,
        Gave-end g.S.Source.means c.args.source.now c.loop-len.source c.take_byte.new.source
            (take c.loop-len.len c.loop-len.buffer) c.loop-len.invariant.gave took.1,
      ),
      inr (HasEnded-Gave g.S.Source.means c.loop-len.source c.take_byte.new.source took.0 took.1),
    )

pub returns-in-Err-clause-took : goal.returns-in-Err-clause-took
returns-in-Err-clause-took g c =
    let long = length-take-le c.loop-len.len c.loop-len.buffer (let f = c.loop-len.invariant.full in omega arith) in (
      take c.loop-len.len c.loop-len.buffer,
      omega arith,
      c.loop-len.invariant.one_line,
      Gave-end g.S.Source.means c.args.source.now c.loop-len.source c.take_byte.new.source
          (take c.loop-len.len c.loop-len.buffer) c.loop-len.invariant.gave c.in-Err.ensures.took,
    )

pub returns-clause-took : goal.returns-clause-took
returns-clause-took g c = (
  omega arith,
  omega arith,
  (
    take c.loop-len.len c.loop-len.buffer,
    length-take-le c.loop-len.len c.loop-len.buffer (let f = c.loop-len.invariant.full in omega arith),
    c.loop-len.invariant.one_line,
    c.loop-len.invariant.gave,
  ),
  inl (omega arith),
)
