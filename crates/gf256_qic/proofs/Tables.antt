-- Tests of each number below a bound, which compute.
use Rattle.std.proofs.Common.{◌≡◌, ℕ, zero, suc, ◌<◌, Bool, true, ◌&&◌, subst, inl, inr, arith}
use Rattle.std.proofs.lemmas.Bool.{and_parts, cases_lt}

-- whether a test holds of each number below n
unfoldable pub all_below : ℕ → (ℕ → Bool) → Bool
all_below zero test = true
all_below (suc n) test = test n && all_below n test

-- it then holds of each of them
pub all_below_at : (n : ℕ) (test : ℕ → Bool) → all_below n test ≡ true → (i : ℕ) → i < n → test i ≡ true
unfolding all_below
all_below_at zero test all i h = absurd (omega arith)
all_below_at (suc n) test all i h =
    let parts : (test n ≡ true) × (all_below n test ≡ true) = and_parts (test n) (all_below n test) all in
    elim (cases_lt i n) [
      | inl below ↦ all_below_at n test parts.1 i below
      | inr above ↦ let here : n ≡ i = omega arith in subst (λ (x : ℕ). test x ≡ true) here parts.0
    ]
