-- Sums over segments.
use Rattle.std.proofs.Common.{◌≡◌, ℕ, suc, ◌+◌, ◌-◌, ◌≤◌, ◌++◌, [], ◌∷◌, ap, ◌∙◌, arith}
use Rattle.std.proofs.lemmas.List.Sums.{sum_by_push}
use Rattle.std.specs.Prelude.{sum_by}
use Rattle.std.specs.List.{range_with_len}
use Rattle.command_laws.proofs.ScrubNamed.{range_more}

-- one segment more
pub sum_more : (f : ℕ → ℕ) (first segment : ℕ) → first ≤ segment →
    sum_by f (range_with_len first (segment + 1 - first)) ≡ sum_by f (range_with_len first (segment - first)) + f segment
sum_more f first segment behind =
    let n : ℕ = segment - first in
    let more : segment + 1 - first ≡ suc n = omega arith in
    let last : first + n ≡ segment = omega arith in
    ap (λ (k : ℕ). sum_by f (range_with_len first k)) more
    ∙ ap (sum_by f) (range_more first n ∙ ap (λ (k : ℕ). range_with_len first n ++ k ∷ []) last)
    ∙ sum_by_push f (range_with_len first n) segment
