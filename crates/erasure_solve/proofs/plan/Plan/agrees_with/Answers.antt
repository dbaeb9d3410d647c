use Rattle.std.proofs.Common.{refl}
use Rattle.erasure_solve.proofs.Plans.{zero_agree}
use Rattle.erasure_solve.proofs.plan.Plan.agrees_with.Goals as goal

pub returns-then-are_zero : goal.returns-then-are_zero
returns-then-are_zero c = (
  λ yes. zero_agree c.args.self.now c.args.values.now (c.are_zero.ensures.0 c.if-are_zero.true),
  λ agree. refl,
)
