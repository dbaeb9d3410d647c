use Rattle.std.proofs.Common.{ℕ, ◌∙◌, sym, ap}
use Rattle.cartridge_spec.specs.Code.{product, power}
use Rattle.gf256_qic.proofs.Products.{product_zero_left, product_zero_right}
use Rattle.gf256_qic.proofs.Exponents.{product_by_exponents}
use Rattle.gf256_qic.proofs.mul.Goals as goal
use Rattle.gf256_qic.proofs.mul.Goals.{then-a-eq0-via-then-a-eq0, then-a-eq0-via-else-a-eq0+then-b-eq0}

pub returns-then-a-eq0 : goal.returns-then-a-eq0
returns-then-a-eq0 c =
    elim c.then-a-eq0.branch [
      | then-a-eq0-via-then-a-eq0 w ↦
          sym (ap (λ v. product v c.args.b) w.if-a-eq0.true ∙ product_zero_left c.args.b)
      | then-a-eq0-via-else-a-eq0+then-b-eq0 w ↦
          sym (ap (product c.args.a) w.if-b-eq0.true ∙ product_zero_right c.args.a)
    ]

pub returns : goal.returns
returns c =
    let m : ℕ = c.logarithm.result in
    let n : ℕ = c.logarithm-2.result in
    c.exponential.ensures
    ∙ product_by_exponents m n
    ∙ ap (λ v. product v (power 2 n)) c.logarithm.ensures.power
    ∙ ap (product c.args.a) c.logarithm-2.ensures.power
