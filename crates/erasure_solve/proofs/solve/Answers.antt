use Rattle.std.proofs.Common.{arith}
use Rattle.std.proofs.lemmas.Grind.{common_steps}
use Rattle.erasure_solve.proofs.solve.Goals as goal

pub returns-in_err-plan-clause-too_many : goal.returns-in_err-plan-clause-too_many
returns-in_err-plan-clause-too_many c = λ n. grind (arith, common_steps, c.in_err-plan.ensures.too_many n, c.from_residual.ensures)
