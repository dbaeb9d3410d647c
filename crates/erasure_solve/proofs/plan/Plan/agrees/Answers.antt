use Rattle.std.proofs.Common.{refl}
use Rattle.erasure_solve.proofs.Plans.{full_solvable, plan_solvable, plan_agrees}
use Rattle.erasure_solve.proofs.plan.Plan.agrees.Goals as goal

pub returns-then-is_full : goal.returns-then-is_full
returns-then-is_full c = (
  λ yes. full_solvable c.args.self.now c.args.sectors.now c.requires.plan c.requires.count c.are_sectors.ensures
      (c.is_full.ensures.0 c.if-is_full.true),
  λ solvable. refl,
)

pub returns : goal.returns
returns c = (
  λ yes. plan_solvable c.args.self.now c.of.result c.args.sectors.now c.requires.plan c.requires.count
      c.of.ensures.sectors c.of.ensures.values (c.agrees_with.ensures.0 yes),
  λ solvable. c.agrees_with.ensures.1
      (plan_agrees c.args.self.now c.of.result c.args.sectors.now c.requires.plan c.requires.count
      c.of.ensures.sectors c.of.ensures.values solvable),
)
