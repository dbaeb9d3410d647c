use Rattle.std.proofs.Common.{◌≡◌, ℕ, ◌∙◌, ap, sym, subst, arith}
use Rattle.gf256_qic.specs.Code.{IsSolvable}
use Rattle.gf256_qic.proofs.Parities.{block_count}
use Rattle.erasure_solve.specs.Lost.{lost_count}
use Rattle.erasure_solve.specs.Plan.{planned_lost}
use Rattle.erasure_solve.proofs.Plans.{none_counted, solvable_whole, whole_solvable}
use Rattle.qic_base.specs.CartridgeTerms.{is_lost}
use Rattle.erasure_solve.proofs.consistent.Goals as goal

pub of-requires-clause-few : goal.of-requires-clause-few
of-requires-clause-few c =
    let none : lost_count c.from_mask.result ≡ 0 = ap (λ (m : ℕ). lost_count m) c.from_mask.ensures ∙ none_counted in
    omega arith

pub returns-in-4-to-32 : goal.returns-in-4-to-32
returns-in-4-to-32 c =
    let mask : planned_lost c.of.result ≡ 0 = c.of.ensures.of_lost ∙ c.from_mask.ensures in (
      λ yes. solvable_whole c.args.sectors.now
          (subst (λ (m : ℕ). IsSolvable (is_lost m) c.args.sectors.now) mask (c.agrees.ensures.0 yes)),
      λ block. c.agrees.ensures.1
          (subst (λ (m : ℕ). IsSolvable (is_lost m) c.args.sectors.now) (sym mask) (whole_solvable c.args.sectors.now block)),
    )

pub returns-in_default : goal.returns-in_default
returns-in_default c = (
  λ no. cc,
  λ block. let count = block_count c.args.sectors.now block in absurd (omega (arith, count.0)),
)

pub returns-in_default-2 : goal.returns-in_default-2
returns-in_default-2 c = (
  λ no. cc,
  λ block. let count = block_count c.args.sectors.now block in absurd (omega (arith, count.1)),
)
