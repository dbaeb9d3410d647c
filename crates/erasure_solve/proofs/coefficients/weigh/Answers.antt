use Rattle.std.proofs.Common.{◌∙◌, ap, bit_xor}
use Rattle.cartridge_spec.specs.Code.{product}
use Rattle.erasure_solve.specs.Rows.{weighed_sum}
use Rattle.erasure_solve.proofs.coefficients.weigh.Goals as goal

pub returns : goal.returns
unfolding weighed_sum
returns c =
    ap (λ x. bit_xor (bit_xor x c.mul_by_shifts-2.result) c.mul_by_shifts-3.result) c.mul_by_shifts.ensures
    ∙ ap (λ x. bit_xor (bit_xor (product c.args.p c.args.a) x) c.mul_by_shifts-3.result) c.mul_by_shifts-2.ensures
    ∙ ap (bit_xor (bit_xor (product c.args.p c.args.a) (product c.args.q c.args.b))) c.mul_by_shifts-3.ensures
