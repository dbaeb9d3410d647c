use Rattle.std.proofs.Common.{◌≡◌, ℕ, ◌≤◌, refl, sym, subst, List, [], ◌∷◌, get_or}
use Rattle.erasure_solve.specs.Lost.{lost_count}
use Rattle.erasure_solve.specs.Correction.{AreDegrees}
use Rattle.erasure_solve.proofs.Plans.{degrees_of, factors_of}
use Rattle.erasure_solve.proofs.plan.Plan.of.Goals as goal

pub returns : goal.returns
returns c =
    let ds : List ℕ = c.degrees-degrees.result in
    let d0 : ℕ = get_or ds 0 0 in
    let d1 : ℕ = get_or ds 1 0 in
    let d2 : ℕ = get_or ds 2 0 in
    let d : ℕ = c.at.result.degree in
    let e : ℕ = c.at-2.result.degree in
    let f : ℕ = c.at-3.result.degree in
    let ed : d ≡ d0 = c.at.ensures.degree in
    let ee : e ≡ d1 = c.at-2.ensures.degree in
    let ef : f ≡ d2 = c.at-3.ensures.degree in
    let same : c.mask.result ≡ c.args.lost.now = c.mask.ensures in
    record {
      is_plan = record {
        least = c.requires.least;
        most = c.requires.most;
        few = subst (λ (m : ℕ). lost_count m ≤ 3) (sym same) c.requires.few;
        degrees = subst (λ (m : ℕ). AreDegrees m c.args.count (d ∷ e ∷ f ∷ [])) (sym same)
            (degrees_of c.args.lost.now c.args.count ds d e f c.degrees-degrees.ensures ed ee ef);
        first = factors_of c.at.result.factors d0 d1 d2 d e f c.at.ensures.factors ed ee ef;
        second = factors_of c.at-2.result.factors d1 d0 d2 e d f c.at-2.ensures.factors ee ed ef;
        third = factors_of c.at-3.result.factors d2 d0 d1 f d e c.at-3.ensures.factors ef ed ee;
      };
      of_count = refl;
      of_lost = same;
    }
