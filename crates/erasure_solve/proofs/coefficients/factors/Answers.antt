use Rattle.std.proofs.Common.{◌≡◌, ℕ, ◌∙◌, ap, [], ◌∷◌, bit_xor}
use Rattle.cartridge_spec.specs.Code.{product}
use Rattle.erasure_solve.specs.Correction.{scale}
use Rattle.erasure_solve.proofs.Algebra.{scale_from}
use Rattle.erasure_solve.proofs.coefficients.factors.Goals as goal

pub returns : goal.returns
returns c =
    let y : ℕ = c.args.y in
    let z : ℕ = c.args.z in
    let s : ℕ = c.mul-scale.result in
    let f : ℕ = scale c.args.x y z in
    let own : s ≡ f =
    c.mul-scale.ensures ∙ ap (product c.args.x) c.mul.ensures
    ∙ scale_from c.args.x y z c.inv.result c.inv-2.result
    c.ranges.x.fits c.ranges.y.fits c.ranges.z.fits c.inv.type_inv c.inv-2.type_inv
    c.requires.second c.requires.third c.inv.ensures c.inv-2.ensures in
    ap (λ v. v ∷ c.mul-4.result ∷ s ∷ [])
    (c.mul-3.ensures ∙ ap (product s) c.mul-2.ensures ∙ ap (λ v. product v (product y z)) own)
    ∙ ap (λ v. product f (product y z) ∷ v ∷ s ∷ []) (c.mul-4.ensures ∙ ap (λ v. product v (bit_xor y z)) own)
    ∙ ap (λ v. product f (product y z) ∷ product f (bit_xor y z) ∷ v ∷ []) own
