use Rattle.std.proofs.Common.{◌≡◌, ◌+◌, ℕ, Bool, refl, subst, arith}
use Rattle.rescue_map.specs.Reads.{left_of, ReadFault}
use Rattle.qic_base.proofs.Giving.{NoneLeft-now}
use Rattle.rescue_map.proofs.Lining.{TookLine}
use Rattle.rescue_map.proofs.Following.{next, line_fault, last_line, map_over, line_endless, line_too_many}
use Rattle.rescue_map.proofs.reading.read_map.Goals as goal

pub loop-line-preserved : goal.loop-line-preserved
loop-line-preserved g c =
    let m = g.S.Source.means in
    let old = left_of m c.loop-line.source c.loop-line.buffer c.loop-line.ahead in
    let new = left_of m c.read_line.new.source c.read_line.new.buffer c.read_line.new.ahead in
    let took = rw c.in-Ok-Line.field-0-is at c.in-Ok-Line.ensures.took in
    let moves = rw c.if-not-take.false at c.take.ensures in
    record {
      far = next (m.left c.args.source.now) old new c.loop-line.mask c.take.new.mask c.loop-line.progress.expected c.take.new.self.expected
          c.loop-line.progress.from c.take.new.self.from c.loop-line.line c.in-Ok-Line.words c.loop-line.invariant.far (omega arith)
          (subst (λ (b : Bool). TookLine old new c.in-Ok-Line.words b) c.if-not-ended.false took) moves;
      within = c.in-Ok-Line.ensures.within;
      kept = g.met.S.Source.keeps_on _ _ _ c.loop-line.invariant.kept c.in-Ok-Line.ensures.kept;
      later = let e = c.loop-line.invariant.later in let f = c.in-Ok-Line.ensures.cause.stood in omega arith;
    }

pub returns-in-Ok-End-clause-reads : goal.returns-in-Ok-End-clause-reads
returns-in-Ok-End-clause-reads g c =
    let m = g.S.Source.means in
    let old = left_of m c.loop-line.source c.loop-line.buffer c.loop-line.ahead in
    let new = left_of m c.read_line.new.source c.read_line.new.buffer c.read_line.new.ahead in
    let took = rw c.in-Ok-End.field-0-is at c.in-Ok-End.ensures.took in
    map_over m c.args.source.now c.read_line.new.source old c.read_line.new.buffer c.read_line.new.ahead c.loop-line.mask
    c.loop-line.progress.expected c.loop-line.progress.from
    c.loop-line.line (c.loop-line.line + 1) c.finish.result c.loop-line.invariant.far took.0 took.1
    (NoneLeft-now old new took.0 took.1) refl c.finish.ensures.ends

pub returns-in-Ok-Endless-clause-reads : goal.returns-in-Ok-Endless-clause-reads
returns-in-Ok-Endless-clause-reads g c =
    let m = g.S.Source.means in
    let took = rw c.in-Ok-Endless.field-0-is at c.in-Ok-Endless.ensures.took in
    line_endless m c.args.source.now (left_of m c.loop-line.source c.loop-line.buffer c.loop-line.ahead)
    (left_of m c.read_line.new.source c.read_line.new.buffer c.read_line.new.ahead)
    c.loop-line.mask c.loop-line.progress.expected c.loop-line.progress.from c.loop-line.line c.loop-line.invariant.far took.0 took.1 took.2
    took.3

pub returns-then-not-take-clause-reads : goal.returns-then-not-take-clause-reads
returns-then-not-take-clause-reads g c =
    let m = g.S.Source.means in
    let took = rw c.in-Ok-Line.field-0-is at c.in-Ok-Line.ensures.took in
    let moves = rw c.if-not-take.true at c.take.ensures in
    line_fault m c.args.source.now (left_of m c.loop-line.source c.loop-line.buffer c.loop-line.ahead)
    (left_of m c.read_line.new.source c.read_line.new.buffer c.read_line.new.ahead)
    c.loop-line.mask c.take.new.mask c.loop-line.progress.expected c.take.new.self.expected c.loop-line.progress.from c.take.new.self.from
    c.loop-line.line
    c.in-Ok-Line.words c.in-Ok-Line.ended c.loop-line.invariant.far (omega arith) took moves

pub returns-then-not-ended-clause-reads : goal.returns-then-not-ended-clause-reads
returns-then-not-ended-clause-reads g c =
    let m = g.S.Source.means in
    let old = left_of m c.loop-line.source c.loop-line.buffer c.loop-line.ahead in
    let new = left_of m c.read_line.new.source c.read_line.new.buffer c.read_line.new.ahead in
    let took = rw c.in-Ok-Line.field-0-is at c.in-Ok-Line.ensures.took in
    let moves = rw c.if-not-take.false at c.take.ensures in
    last_line m c.args.source.now c.read_line.new.source old c.read_line.new.buffer c.read_line.new.ahead c.loop-line.mask c.take.new.mask
    c.loop-line.progress.expected c.take.new.self.expected
    c.loop-line.progress.from c.take.new.self.from c.loop-line.line (c.loop-line.line + 2) c.in-Ok-Line.words c.finish-then-not-ended.result
    c.loop-line.invariant.far (omega arith)
    (subst (λ (b : Bool). TookLine old new c.in-Ok-Line.words b) c.if-not-ended.true took) moves refl c.finish-then-not-ended.ensures.ends

pub returns-in-Ok-None-clause-reads : goal.returns-in-Ok-None-clause-reads
returns-in-Ok-None-clause-reads g c =
    let m = g.S.Source.means in
    let old = left_of m c.loop-line.source c.loop-line.buffer c.loop-line.ahead in
    let new = left_of m c.next_byte.new.source c.next_byte.new.buffer c.next_byte.new.ahead in
    let took = rw c.in-Ok-None.field-0-is at c.in-Ok-None.ensures.took in
    map_over m c.args.source.now c.next_byte.new.source old c.next_byte.new.buffer c.next_byte.new.ahead c.loop-line.mask
    c.loop-line.progress.expected c.loop-line.progress.from
    c.loop-line.line 1048577 c.finish-in-Ok-None.result c.loop-line.invariant.far took.0 took.1 (NoneLeft-now old new took.0 took.1)
    (omega arith) c.finish-in-Ok-None.ensures.ends

pub returns-in-Ok-Some-clause-reads : goal.returns-in-Ok-Some-clause-reads
returns-in-Ok-Some-clause-reads g c =
    let m = g.S.Source.means in
    let took = rw c.in-Ok-Some.field-0-is at c.in-Ok-Some.ensures.took in
    subst (λ (n : ℕ). ReadFault m c.args.source.now n) (let e : c.loop-line.line + 1 ≡ 1048577 = omega arith in e)
    (line_too_many m c.args.source.now (left_of m c.loop-line.source c.loop-line.buffer c.loop-line.ahead)
    (left_of m c.next_byte.new.source c.next_byte.new.buffer c.next_byte.new.ahead)
    c.loop-line.mask c.loop-line.progress.expected c.loop-line.progress.from c.loop-line.line c.in-Ok-Some.field-0-0
    c.loop-line.invariant.far (omega arith) took)
