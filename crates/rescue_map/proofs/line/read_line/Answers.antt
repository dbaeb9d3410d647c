use Rattle.std.proofs.Common.{ℕ, [], ◌∷◌, subst, arith}
use Rattle.qic_base.specs.SourceCalls.{WereGiven}
use Rattle.rescue_map.specs.Reads.{left_of}
use Rattle.rescue_map.proofs.Lining.{next_byte, took_ended, took_last, took_none}
use Rattle.rescue_map.proofs.line.read_line.Goals as goal

pub loop-read-preserved : goal.loop-read-preserved
loop-read-preserved g c =
    let m = g.S.Source.means in
    let took = rw c.in-Ok-Some.field-0-is at c.in-Ok-Some.ensures.took in
    record {
      far = next_byte (left_of m c.args.source.now c.args.buffer.now c.args.ahead.now)
          (left_of m c.loop-read.source c.loop-read.buffer c.loop-read.ahead)
          (left_of m c.next_byte.new.source c.next_byte.new.buffer c.next_byte.new.ahead) c.loop-read.scan c.take.new.self c.loop-read.read
          c.in-Ok-Some.byte
          c.loop-read.invariant.far c.in-Ok-Some.byte-test.1 took c.take.ensures;
      within = c.in-Ok-Some.ensures.within;
      kept = g.met.S.Source.keeps_on _ _ _ c.loop-read.invariant.kept c.in-Ok-Some.ensures.kept;
      later = let e = c.loop-read.invariant.later in let f = c.in-Ok-Some.ensures.cause.stood in omega arith;
    }

pub returns-in-Ok-Some-eq10-clause-kept : goal.returns-in-Ok-Some-eq10-clause-kept
returns-in-Ok-Some-eq10-clause-kept g c = g.met.S.Source.keeps_on _ _ _ c.loop-read.invariant.kept c.in-Ok-Some-eq10.ensures.kept

pub returns-in-Ok-None-2-clause-kept : goal.returns-in-Ok-None-2-clause-kept
returns-in-Ok-None-2-clause-kept g c = g.met.S.Source.keeps_on _ _ _ c.loop-read.invariant.kept c.in-Ok-None.ensures.kept

pub returns-in-Ok-Some-eq10-clause-took : goal.returns-in-Ok-Some-eq10-clause-took
returns-in-Ok-Some-eq10-clause-took g c =
    let m = g.S.Source.means in
    let took = rw c.in-Ok-Some-eq10.field-0-is at c.in-Ok-Some-eq10.ensures.took in
    took_ended (left_of m c.args.source.now c.args.buffer.now c.args.ahead.now)
    (left_of m c.loop-read.source c.loop-read.buffer c.loop-read.ahead)
    (left_of m c.next_byte.new.source c.next_byte.new.buffer c.next_byte.new.ahead) c.loop-read.scan c.loop-read.read c.finish.result
    c.loop-read.invariant.far c.loop-read-test.true
    (subst (λ (b : ℕ). WereGiven (left_of m c.loop-read.source c.loop-read.buffer c.loop-read.ahead)
    (left_of m c.next_byte.new.source c.next_byte.new.buffer c.next_byte.new.ahead) (b ∷ [])) c.in-Ok-Some-eq10.field-0-0-test took)
    c.finish.ensures

pub returns-in-Ok-None-clause-took : goal.returns-in-Ok-None-clause-took
returns-in-Ok-None-clause-took g c =
    let m = g.S.Source.means in
    let took = rw c.in-Ok-None.field-0-is at c.in-Ok-None.ensures.took in
    took_none (left_of m c.args.source.now c.args.buffer.now c.args.ahead.now)
    (left_of m c.loop-read.source c.loop-read.buffer c.loop-read.ahead)
    (left_of m c.next_byte.new.source c.next_byte.new.buffer c.next_byte.new.ahead) c.loop-read.scan c.loop-read.read
    c.loop-read.invariant.far c.if-read-eq0.true took.0 took.1

pub returns-in-Ok-None-2-clause-took : goal.returns-in-Ok-None-2-clause-took
returns-in-Ok-None-2-clause-took g c =
    let m = g.S.Source.means in
    let took = rw c.in-Ok-None.field-0-is at c.in-Ok-None.ensures.took in
    took_last (left_of m c.args.source.now c.args.buffer.now c.args.ahead.now)
    (left_of m c.loop-read.source c.loop-read.buffer c.loop-read.ahead)
    (left_of m c.next_byte.new.source c.next_byte.new.buffer c.next_byte.new.ahead) c.loop-read.scan c.loop-read.read
    c.finish-in-Ok-None-2.result
    c.loop-read.invariant.far c.loop-read-test.true c.if-read-eq0.false took.0 took.1 c.finish-in-Ok-None-2.ensures
