-- Sets of lost places by their tests: with fewer places, and with one more.
use Rattle.std.proofs.Common.{◌≡◌, ◌≢◌, ℕ, ◌+◌, ◌/◌, ◌%◌, ◌^◌, ◌≤◌, ◌↔◌, sym, ◌∙◌, subst, arith, inl, inr, nat_eq}
use Rattle.std.proofs.lemmas.Bool.{cases_eq, eq-eqb, ne_eqb, or_right}
use Rattle.qic_base.specs.CartridgeTerms.{IsLost, is_lost}
use Rattle.gf256_qic.specs.Code.{lost_below}
use Rattle.erasure_solve.specs.Lost.{lost_count}
use Rattle.erasure_solve.proofs.Places.{is_lost_from, lost_below-places}
use Rattle.silent_locate.specs.Tries.{lost_or}
use Rattle.silent_locate.proofs.Cells.{or_place, or_place-other, lost_below-or}
use Rattle.gf256_qic.proofs.Agreement.{lost_below-same}

-- a place that is lost in both or in none
same_lost : (a b i : ℕ) → (IsLost a i ↔ IsLost b i) → is_lost a i ≡ is_lost b i
same_lost a b i same =
    elim (cases_eq (a / 2 ^ i % 2) 1) [
      | inl on ↦ is_lost_from a i on ∙ sym (is_lost_from b i (same.0 on))
      | inr off ↦ ne_eqb (a / 2 ^ i % 2) 1 off ∙ sym (ne_eqb (b / 2 ^ i % 2) 1 (λ on. off (same.1 on)))
    ]

-- the set with one place more
pub with_place-test : (lost more place : ℕ) → IsLost more place →
    ((other : ℕ) → other ≢ place → IsLost more other ↔ IsLost lost other) → (i : ℕ) → is_lost more i ≡ lost_or lost place i
with_place-test lost more place here others i =
    elim (cases_eq i place) [
      | inl e ↦
          is_lost_from more i (subst (IsLost more) (sym e) here)
          ∙ sym (or_right (is_lost lost i) (nat_eq i place) (eq-eqb i place e))
      | inr apart ↦ same_lost more lost i (others i apart) ∙ sym (or_place-other (is_lost lost) place i apart)
    ]

pub count_with_place : (lost more place : ℕ) → ((i : ℕ) → is_lost more i ≡ lost_or lost place i) →
    lost_count more ≤ lost_count lost + 1
count_with_place lost more place same =
    let all : lost_below (is_lost more) 32 ≡ lost_count more = lost_below-places more 32 in
    let before : lost_below (is_lost lost) 32 ≡ lost_count lost = lost_below-places lost 32 in
    let between : lost_below (is_lost more) 32 ≡ lost_below (or_place (is_lost lost) place) 32 =
    lost_below-same (is_lost more) (or_place (is_lost lost) place) 32 (λ i h. same i) in
    let most : lost_below (or_place (is_lost lost) place) 32 ≤ lost_below (is_lost lost) 32 + 1 =
    lost_below-or (is_lost lost) place 32 in
    omega arith
