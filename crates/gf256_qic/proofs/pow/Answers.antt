use Rattle.std.proofs.Common.{◌∙◌, sym, ap, arith}
use Rattle.cartridge_spec.specs.Code.{power}
use Rattle.gf256_qic.proofs.Powers.{power_none}
use Rattle.gf256_qic.proofs.Exponents.{power_of_zero, power_product}
use Rattle.gf256_qic.proofs.pow.Goals as goal

pub returns-then-n-eq0 : goal.returns-then-n-eq0
returns-then-n-eq0 c = sym (ap (power c.args.a) c.if-n-eq0.true ∙ power_none c.args.a)

pub returns-then-a-eq0 : goal.returns-then-a-eq0
returns-then-a-eq0 c =
    sym (ap (λ v. power v c.args.n) c.if-a-eq0.true ∙ power_of_zero c.args.n c.if-n-eq0.false)

pub returns : goal.returns
returns c =
    c.exponential.ensures
    ∙ power_product 2 c.logarithm.result c.args.n (omega arith)
    ∙ ap (λ v. power v c.args.n) c.logarithm.ensures.power
