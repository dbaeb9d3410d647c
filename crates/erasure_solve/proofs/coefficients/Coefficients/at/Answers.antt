use Rattle.std.proofs.Common.{ℕ, ◌∙◌, sym, ap}
use Rattle.cartridge_spec.specs.Code.{power}
use Rattle.gf256_qic.proofs.Distance.{power_apart}
use Rattle.erasure_solve.specs.Correction.{correction_factors}
use Rattle.erasure_solve.proofs.coefficients.Coefficients.at.Goals as goal

pub factors-requires-clause-second : goal.factors-requires-clause-second
factors-requires-clause-second c = λ e.
    power_apart c.args.own c.args.other c.requires.own c.requires.other c.requires.from_other
    (sym c.pow.ensures ∙ e ∙ c.pow-2.ensures)

pub factors-requires-clause-third : goal.factors-requires-clause-third
factors-requires-clause-third c = λ e.
    power_apart c.args.own c.args.third c.requires.own c.requires.third c.requires.from_third
    (sym c.pow.ensures ∙ e ∙ c.pow-3.ensures)

pub returns-clause-factors : goal.returns-clause-factors
returns-clause-factors c =
    let y : ℕ = c.pow-2.result in
    let z : ℕ = c.pow-3.result in
    c.factors.ensures
    ∙ ap (λ v. correction_factors v y z) c.pow.ensures
    ∙ ap (λ v. correction_factors (power 2 c.args.own) v z) c.pow-2.ensures
    ∙ ap (λ v. correction_factors (power 2 c.args.own) (power 2 c.args.other) v) c.pow-3.ensures
