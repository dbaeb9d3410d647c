use Rattle.std.proofs.Common.{ℕ, ◌-◌, ◌∙◌, sym, ap}
use Rattle.cartridge_spec.specs.Code.{product, power}
use Rattle.gf256_qic.proofs.Exponents.{inverse_by_exponent}
use Rattle.gf256_qic.proofs.inv.Goals as goal

pub returns : goal.returns
returns c =
    let m : ℕ = c.logarithm.result in
    ap (product c.args.a) c.exponential.ensures
    ∙ ap (λ v. product v (power 2 (255 - m))) (sym c.logarithm.ensures.power)
    ∙ inverse_by_exponent m c.logarithm.ensures.within
