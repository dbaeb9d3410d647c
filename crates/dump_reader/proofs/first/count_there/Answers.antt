use Rattle.std.proofs.Common.{◌≡◌, ◌≤◌, ℕ, List, true, false, arith, sym, ap, ◌∙◌}
use Rattle.dump_reader.proofs.Counting.{there_below, there_none, there_next, there_all}
use Rattle.dump_reader.proofs.first.count_there.Goals as goal
use Rattle.dump_reader.proofs.first.count_there.Goals.{then-not-is_marked, else-not-is_marked}

pub loop-segment-init : goal.loop-segment-init
loop-segment-init c = record {
  there = sym (ap (λ (s : ℕ). there_below c.args.missing.now c.args.first s) c.from-segment.ensures
      ∙ there_none c.args.missing.now c.args.first);
  few = omega arith;
}

pub loop-segment-preserved : goal.loop-segment-preserved
loop-segment-preserved c =
    let missing : List ℕ = c.args.missing.now in
    let low : c.args.first ≤ c.loop-segment.segment = omega (arith, c.from-segment.ensures) in
    elim c.if-not-is_marked.branch [
      | then-not-is_marked w ↦ record {
        there = there_next missing c.args.first c.loop-segment.segment c.loop-segment.count c.if-not-is_marked.count false low
            (sym c.is_marked.ensures ∙ w.if-not-is_marked.true) c.loop-segment.invariant.there w.count-is;
        few = omega arith;
      }
      | else-not-is_marked w ↦ record {
        there = there_next missing c.args.first c.loop-segment.segment c.loop-segment.count c.if-not-is_marked.count true low
            (sym c.is_marked.ensures ∙ w.if-not-is_marked.false) c.loop-segment.invariant.there (omega (arith, w.count-is));
        few = omega arith;
      }
    ]

pub returns-clause-there : goal.returns-clause-there
returns-clause-there c =
    let all : c.loop-segment.segment ≡ 65536 = omega (arith, c.from-segment.ensures, c.ranges.first.fits) in
    c.loop-segment.invariant.there ∙ there_all c.args.missing.now c.args.first c.loop-segment.segment all
