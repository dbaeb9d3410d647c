use Rattle.std.proofs.Common.{◌≡◌, ◌+◌, ◌++◌, ℕ, Bool, take, refl, subst, arith, append-nil}
use Rattle.std.proofs.lemmas.List.{length-take-le}
use Rattle.qic_base.specs.SourceCalls.{WereGiven}
use Rattle.qic_base.proofs.Giving.{NoneLeft-now}
use Rattle.rescue_map.specs.Reads.{left_of, newline_of}
use Rattle.dump_lists.specs.Names.{bits_named}
use Rattle.dump_lists.specs.Reads.{ReadFault}
use Rattle.dump_lists.proofs.Following.{first, next, line_fault, last_line, list_over, line_long, line_too_many}
use Rattle.dump_lists.proofs.reading.read_list.Goals as goal

pub loop-number-init : goal.loop-number-init
loop-number-init g c = record {
  far = first (bits_named c.args.kind) g.S.Source.means c.args.source.now c.args.buffer.now c.clear.new.mask c.clear.ensures;
  within = record { ordered = omega arith; within = omega arith };
  kept = g.met.S.Source.keeps_itself _;
  later = refl;
}

pub loop-number-preserved : goal.loop-number-preserved
loop-number-preserved g c =
    let m = g.S.Source.means in
    let old = left_of m c.loop-number.source c.loop-number.buffer c.loop-number.ahead in
    let new = left_of m c.read_line.new.source c.read_line.new.buffer c.read_line.new.ahead in
    let took = rw c.in-Ok-Line.field-0-is at c.in-Ok-Line.ensures.took in
    let moves = rw (c.if-not-take_line.false, c.if-not-ended.false) at c.take_line.ensures in
    record {
      far = next (bits_named c.args.kind) (m.left c.args.source.now) old new c.loop-number.mask c.take_line.new.mask c.loop-number.number
          (take c.in-Ok-Line.len c.read_line.new.line) c.loop-number.invariant.far (omega arith) took.0
          (subst (λ (b : Bool). WereGiven old new (take c.in-Ok-Line.len c.read_line.new.line ++ newline_of b)) c.if-not-ended.false took.3)
          moves;
      within = c.in-Ok-Line.ensures.within;
      kept = g.met.S.Source.keeps_on _ _ _ c.loop-number.invariant.kept c.in-Ok-Line.ensures.kept;
      later = let e = c.loop-number.invariant.later in let f = c.in-Ok-Line.ensures.cause.stood in omega arith;
    }

pub returns-in-Ok-End-clause-reads : goal.returns-in-Ok-End-clause-reads
returns-in-Ok-End-clause-reads g c =
    let m = g.S.Source.means in
    let old = left_of m c.loop-number.source c.loop-number.buffer c.loop-number.ahead in
    let new = left_of m c.read_line.new.source c.read_line.new.buffer c.read_line.new.ahead in
    let took = rw c.in-Ok-End.field-0-is at c.in-Ok-End.ensures.took in
    list_over (bits_named c.args.kind) m c.args.source.now c.read_line.new.source old c.read_line.new.buffer c.read_line.new.ahead
    c.loop-number.mask c.loop-number.number c.loop-number.invariant.far took.0 (NoneLeft-now old new took.0 took.1)

pub returns-in-Ok-Long-clause-reads : goal.returns-in-Ok-Long-clause-reads
returns-in-Ok-Long-clause-reads g c =
    let m = g.S.Source.means in
    let old = left_of m c.loop-number.source c.loop-number.buffer c.loop-number.ahead in
    let new = left_of m c.read_line.new.source c.read_line.new.buffer c.read_line.new.ahead in
    let took = rw c.in-Ok-Long.field-0-is at c.in-Ok-Long.ensures.took in
    line_long (bits_named c.args.kind) m c.args.source.now old new c.loop-number.mask c.loop-number.number (take 33 c.read_line.new.line)
    c.loop-number.invariant.far took.0 (length-take-le 33 c.read_line.new.line (omega arith)) took.1

pub returns-then-not-take_line-clause-reads : goal.returns-then-not-take_line-clause-reads
returns-then-not-take_line-clause-reads g c =
    let m = g.S.Source.means in
    let old = left_of m c.loop-number.source c.loop-number.buffer c.loop-number.ahead in
    let new = left_of m c.read_line.new.source c.read_line.new.buffer c.read_line.new.ahead in
    let took = rw c.in-Ok-Line.field-0-is at c.in-Ok-Line.ensures.took in
    let moves = rw c.if-not-take_line.true at c.take_line.ensures in
    line_fault (bits_named c.args.kind) m c.args.source.now old new c.loop-number.mask c.take_line.new.mask c.loop-number.number
    (take c.in-Ok-Line.len c.read_line.new.line) c.in-Ok-Line.ended c.loop-number.invariant.far (omega arith) took.0
    (λ e. let l = length-take-le c.in-Ok-Line.len c.read_line.new.line (let h = took.1 in omega arith) in let s = took.2 e in omega arith)
    took.3 took.4 moves

pub returns-then-not-ended-clause-reads : goal.returns-then-not-ended-clause-reads
returns-then-not-ended-clause-reads g c =
    let m = g.S.Source.means in
    let old = left_of m c.loop-number.source c.loop-number.buffer c.loop-number.ahead in
    let new = left_of m c.read_line.new.source c.read_line.new.buffer c.read_line.new.ahead in
    let bytes = take c.in-Ok-Line.len c.read_line.new.line in
    let took = rw c.in-Ok-Line.field-0-is at c.in-Ok-Line.ensures.took in
    let moves = rw (c.if-not-take_line.false, c.if-not-ended.true) at c.take_line.ensures in
    last_line (bits_named c.args.kind) m c.args.source.now c.read_line.new.source old c.read_line.new.buffer c.read_line.new.ahead
    c.loop-number.mask c.take_line.new.mask c.loop-number.number bytes c.loop-number.invariant.far (omega arith) took.0
    (let l = length-take-le c.in-Ok-Line.len c.read_line.new.line (let h = took.1 in omega arith) in
    let s = took.2 c.if-not-ended.true in omega arith)
    (rw append-nil at (subst (λ (b : Bool). WereGiven old new (bytes ++ newline_of b)) c.if-not-ended.true took.3))
    (took.4 c.if-not-ended.true) moves

pub returns-in-Ok-None-clause-reads : goal.returns-in-Ok-None-clause-reads
returns-in-Ok-None-clause-reads g c =
    let m = g.S.Source.means in
    let old = left_of m c.loop-number.source c.loop-number.buffer c.loop-number.ahead in
    let new = left_of m c.next_byte.new.source c.next_byte.new.buffer c.next_byte.new.ahead in
    let took = rw c.in-Ok-None.field-0-is at c.in-Ok-None.ensures.took in
    list_over (bits_named c.args.kind) m c.args.source.now c.next_byte.new.source old c.next_byte.new.buffer c.next_byte.new.ahead
    c.loop-number.mask c.loop-number.number c.loop-number.invariant.far took.0 (NoneLeft-now old new took.0 took.1)

pub returns-in-Ok-Some-clause-reads : goal.returns-in-Ok-Some-clause-reads
returns-in-Ok-Some-clause-reads g c =
    let m = g.S.Source.means in
    let took = rw c.in-Ok-Some.field-0-is at c.in-Ok-Some.ensures.took in
    subst (λ (n : ℕ). ReadFault (bits_named c.args.kind) m c.args.source.now n)
    (let e : c.loop-number.number + 1 ≡ 1048577 = omega arith in e)
    (line_too_many (bits_named c.args.kind) m c.args.source.now (left_of m c.loop-number.source c.loop-number.buffer c.loop-number.ahead)
    (left_of m c.next_byte.new.source c.next_byte.new.buffer c.next_byte.new.ahead) c.loop-number.mask c.loop-number.number
    c.in-Ok-Some.field-0-0 c.loop-number.invariant.far (omega arith) took)
