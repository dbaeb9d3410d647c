-- What a `Plan` has prepared.
use Rattle.std.specs.Prelude.{◌≡◌, ℕ, ◌<◌, ◌≤◌, [], ◌∷◌}
use Rattle.cartridge_spec.specs.Code.{power}
use Rattle.erasure_solve.specs.Lost.{lost_count}
use Rattle.erasure_solve.specs.Rows.{weighed_row}
use Rattle.erasure_solve.specs.Correction.{correction_factors, Correction, Corrections, AreDegrees}
use Rattle.erasure_solve.specs.declared.coefficients.Coefficients.{Coefficients}
use Rattle.erasure_solve.specs.declared.plan.Plan.{Plan}
use Rattle.erasure_solve.specs.declared.values.Values.{Values}

-- for how many sectors it is
abbrev pub planned_count : Plan → ℕ
planned_count plan = plan.count

-- the mask of the places that are lost
abbrev pub planned_lost : Plan → ℕ
planned_lost plan = plan.lost

-- the factors of the correction at a place, where the other two have the degrees e and f
abbrev pub AreFactors : Coefficients → ℕ → ℕ → Type 0
AreFactors own e f = own.factors ≡ correction_factors (power 2 own.degree) (power 2 e) (power 2 f)

-- its degrees are those of the lost places, and its factors those of the corrections that make a code block
pub record IsPlan (plan : Plan) : Type 0 where
  pub least : 4 ≤ planned_count plan
  pub most : planned_count plan ≤ 32
  pub few : lost_count (planned_lost plan) ≤ 3
  pub degrees : AreDegrees (planned_lost plan) (planned_count plan)
      (plan.first.degree ∷ plan.second.degree ∷ plan.third.degree ∷ [])
  pub first : AreFactors plan.first plan.second.degree plan.third.degree
  pub second : AreFactors plan.second plan.first.degree plan.third.degree
  pub third : AreFactors plan.third plan.first.degree plan.second.degree

-- the plan for this many sectors of which these are lost
pub record IsPlanFor (plan : Plan) (count mask : ℕ) : Type 0 where
  pub is_plan : IsPlan plan
  pub of_count : planned_count plan ≡ count
  pub of_lost : planned_lost plan ≡ mask

-- three places are lost
pub record IsFull (plan : Plan) : Type 0 where
  pub first : plan.first.degree < 32
  pub second : plan.second.degree < 32
  pub third : plan.third.degree < 32

-- what is added at the place of the coefficients in a segment with these values
abbrev pub correction_of : Coefficients → Values → Correction
correction_of own values = record { degree = own.degree; bytes = weighed_row values own.factors }

abbrev pub corrections_of : Plan → Values → Corrections
corrections_of plan values = record {
  first = correction_of plan.first values;
  second = correction_of plan.second values;
  third = correction_of plan.third values;
}
