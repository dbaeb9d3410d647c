use Rattle.erasure_solve.specs.Plan.{planned_lost}
use Rattle.erasure_solve.proofs.Blocks.{only_block}
use Rattle.erasure_solve.proofs.Plans.{filled}
use Rattle.erasure_solve.proofs.plan.Plan.fill.Goals as goal

pub returns-clause-block : goal.returns-clause-block
returns-clause-block c =
    (filled c.args.self.now c.of-rows.result c.correct.new.values c.args.sectors.now c.apply.new.sectors c.apply-2.new.sectors
    c.apply-3.new.sectors
    c.requires.plan c.requires.count c.of-rows.ensures.sectors c.of-rows.ensures.values c.requires.agrees
    c.correct.ensures c.apply.ensures c.apply-2.ensures c.apply-3.ensures).0

pub returns-clause-others : goal.returns-clause-others
returns-clause-others c =
    (filled c.args.self.now c.of-rows.result c.correct.new.values c.args.sectors.now c.apply.new.sectors c.apply-2.new.sectors
    c.apply-3.new.sectors
    c.requires.plan c.requires.count c.of-rows.ensures.sectors c.of-rows.ensures.values c.requires.agrees
    c.correct.ensures c.apply.ensures c.apply-2.ensures c.apply-3.ensures).1

pub returns-clause-only : goal.returns-clause-only
returns-clause-only c = λ other block agrees.
    let made =
    filled c.args.self.now c.of-rows.result c.correct.new.values c.args.sectors.now c.apply.new.sectors c.apply-2.new.sectors
    c.apply-3.new.sectors
    c.requires.plan c.requires.count c.of-rows.ensures.sectors c.of-rows.ensures.values c.requires.agrees
    c.correct.ensures c.apply.ensures c.apply-2.ensures c.apply-3.ensures in
    only_block (planned_lost c.args.self.now) c.args.sectors.now c.apply-3.new.sectors other c.requires.plan.few
    made.0 made.1 block agrees
