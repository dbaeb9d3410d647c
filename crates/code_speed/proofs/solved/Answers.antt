use Rattle.std.proofs.Common.{◌≡◌, ℕ, refl, ◌∙◌, ap, subst, sym, arith}
use Rattle.qic_base.specs.Cartridge.{lost_places}
use Rattle.gf256_qic.specs.Code.{IsSolvable}
use Rattle.erasure_solve.specs.Lost.{lost_count}
use Rattle.qic_base.specs.CartridgeTerms.{is_lost}
use Rattle.code_speed.proofs.solved.Goals as goal

three_lost : lost_count 0x02004008 ≡ 3
unfolding lost_places
three_lost = refl

pub returns-clause-solved : goal.returns-clause-solved
returns-clause-solved c =
    let mask : c.from_mask.result ≡ 0x02004008 = c.from_mask.ensures in
    let three : lost_count c.from_mask.result ≡ 3 = ap (λ (m : ℕ). lost_count m) mask ∙ three_lost in (
      λ ok. subst (λ (m : ℕ). IsSolvable (is_lost m) c.args.segment.now) mask (c.solve.ensures.solved.0 ok).1,
      λ solvable. c.solve.ensures.solved.1
          (omega arith, subst (λ (m : ℕ). IsSolvable (is_lost m) c.args.segment.now) (sym mask) solvable),
    )
