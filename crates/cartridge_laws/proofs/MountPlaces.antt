-- Places of a segment that pass a test.
use Rattle.std.proofs.Common.{◌≡◌, ℕ, zero, suc, ◌+◌, ◌<◌, ◌≤◌, ◌∙◌, arith, Bool, false, [], ◌≢◌, inl, inr, ap, true, List, ◌∷◌, ◌++◌, ◌⊎◌}
use Rattle.std.proofs.Common.{subst, sym}
use Rattle.std.proofs.lemmas.Bool.{cases_eq, cases_Bool}
use Rattle.cartridge_laws.proofs.MountWriting.{places_that, places_none, places_fails, places_passes, places_are}
use Rattle.cartridge_laws.proofs.Sets.{IsOneOf, IsNoneOf}
use Rattle.cartridge_laws.specs.Segment.{places_where}

-- ---- none, or one

no_place_from : (test : ℕ → Bool) (count from : ℕ) → ((i : ℕ) → from ≤ i → i < from + count → test i ≡ false) →
    places_that test from count ≡ []
no_place_from test zero from none = places_none test from
no_place_from test (suc m) from none =
    places_fails test from m (none from (omega arith) (omega arith))
    ∙ no_place_from test m (from + 1) (λ i low high. none i (omega arith) (omega arith))

one_place_from : (test : ℕ → Bool) (k count from : ℕ) → from ≤ k → k < from + count → test k ≡ true →
    ((i : ℕ) → from ≤ i → i < from + count → i ≢ k → test i ≡ false) → places_that test from count ≡ k ∷ []
one_place_from test k zero from low high passes others = absurd (omega arith)
one_place_from test k (suc m) from low high passes others =
    elim (cases_eq from k) [
      | inl same ↦
          places_passes test from m (ap test same ∙ passes)
          ∙ ap (λ (ps : List ℕ). from ∷ ps)
          (no_place_from test m (from + 1) (λ i l h. others i (omega arith) (omega arith) (λ e. omega arith)))
          ∙ ap (λ (p : ℕ). p ∷ []) same
      | inr apart ↦
          places_fails test from m (others from (omega arith) (omega arith) apart)
          ∙ one_place_from test k m (from + 1) (omega arith) (omega arith) passes (λ i l h. others i (omega arith) (omega arith))
    ]

pub no_place : (test : ℕ → Bool) → ((i : ℕ) → i < 32 → test i ≡ false) → places_where test ≡ []
no_place test none = places_are test ∙ no_place_from test 32 0 (λ i low high. none i (omega arith))

pub one_place : (test : ℕ → Bool) (k : ℕ) → k < 32 → test k ≡ true → ((i : ℕ) → i < 32 → i ≢ k → test i ≡ false) →
    places_where test ≡ k ∷ []
one_place test k small passes others =
    places_are test ∙ one_place_from test k 32 0 (omega arith) (omega arith) passes (λ i low high. others i (omega arith))

-- ---- all of them

-- each is one of a segment's
abbrev pub AreSmall : List ℕ → Type 0
AreSmall ps = (i : ℕ) → IsOneOf ps i → i < 32

pub rest_small : (p : ℕ) (ps : List ℕ) → AreSmall (p ∷ ps) → AreSmall ps
rest_small p ps small i one = small i (inr one)

pub both_small : (ps rs : List ℕ) → AreSmall ps → AreSmall rs → AreSmall (ps ++ rs)
both_small [] rs small others i one = others i one
both_small (p ∷ ps) rs small others i (inl same) = small i (inl same)
both_small (p ∷ ps) rs small others i (inr one) = both_small ps rs (rest_small p ps small) others i one

pub none_of_rest : (ps rs : List ℕ) (i : ℕ) → IsNoneOf (ps ++ rs) i → IsNoneOf rs i
none_of_rest [] rs i none = none
none_of_rest (p ∷ ps) rs i none = none_of_rest ps rs i none.1

those_small : (test : ℕ → Bool) (count from : ℕ) → from + count ≤ 32 → AreSmall (places_that test from count)
those_small test zero from room i one = absurd (subst (λ (ps : List ℕ). IsOneOf ps i) (places_none test from) one)
those_small test (suc m) from room i one =
    elim (cases_Bool (test from)) [
      | inl passes ↦
          first_or_rest (λ more. those_small test m (from + 1) (omega arith) i more)
          (subst (λ (ps : List ℕ). IsOneOf ps i) (places_passes test from m passes) one)
      | inr fails ↦
          those_small test m (from + 1) (omega arith) i (subst (λ (ps : List ℕ). IsOneOf ps i) (places_fails test from m fails) one)
    ]
  where
    first_or_rest : (IsOneOf (places_that test (from + 1) m) i → i < 32) → (i ≡ from) ⊎ IsOneOf (places_that test (from + 1) m) i →
        i < 32
    first_or_rest small (inl same) = omega arith
    first_or_rest small (inr more) = small more

-- the test is false of each place that is not named
unnamed_fails : (test : ℕ → Bool) (count from i : ℕ) → from ≤ i → i < from + count → IsNoneOf (places_that test from count) i →
    test i ≡ false
unnamed_fails test zero from i low high none = absurd (omega arith)
unnamed_fails test (suc m) from i low high none =
    elim (cases_Bool (test from)) [
      | inl passes ↦
          let apart = subst (λ (ps : List ℕ). IsNoneOf ps i) (places_passes test from m passes) none in
          let other : i ≢ from = apart.0 in
          unnamed_fails test m (from + 1) i (above other) (omega arith) apart.1
      | inr fails ↦ elim (cases_eq i from) [
        | inl same ↦ ap test same ∙ fails
        | inr other ↦
            unnamed_fails test m (from + 1) i (above other) (omega arith)
            (subst (λ (ps : List ℕ). IsNoneOf ps i) (places_fails test from m fails) none)
      ]
    ]
  where
    above : i ≢ from → from + 1 ≤ i
    above other = omega arith

pub where_small : (test : ℕ → Bool) → AreSmall (places_where test)
where_small test = subst AreSmall (sym (places_are test)) (those_small test 32 0 (omega arith))

pub where_fails : (test : ℕ → Bool) (i : ℕ) → i < 32 → IsNoneOf (places_where test) i → test i ≡ false
where_fails test i h none =
    unnamed_fails test 32 0 i (omega arith) (omega arith) (subst (λ (ps : List ℕ). IsNoneOf ps i) (places_are test) none)
