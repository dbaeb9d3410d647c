-- Sets that are made place by place.
use Rattle.std.proofs.Common.{◌≡◌, ◌≢◌, ◌↔◌, ℕ, ◌+◌, ◌/◌, ◌%◌, ◌^◌, ◌<◌, inl, inr, Bool, true, false, sym, subst, ◌∙◌, arith}
use Rattle.std.proofs.Math.Pow.{pow-lt}
use Rattle.std.proofs.lemmas.Bool.{cases_eq, ne_eqb}
use Rattle.erasure_solve.proofs.Places.{is_lost_from}
use Rattle.qic_base.specs.CartridgeTerms.{IsLost, is_lost}
use Rattle.segment_salvage.proofs.Sets.{lost_within}
use Rattle.silent_locate.proofs.Cells.{or_place-other}
use Rattle.silent_locate.proofs.Sets.{with_place-test}

-- its places are those below a number that pass a test
pub record IsSetBelow (set place : ℕ) (test : ℕ → Bool) : Type 0 where
  pub each : (i : ℕ) → i < place → is_lost set i ≡ test i
  pub within : set < 2 ^ place

pub set_none : (test : ℕ → Bool) → IsSetBelow 0 0 test
set_none test = record { each = λ i h. absurd (omega arith); within = omega arith }

pub set_more : (set more place : ℕ) (test : ℕ → Bool) → IsSetBelow set place test → test place ≡ true → IsLost more place →
    ((other : ℕ) → other ≢ place → IsLost more other ↔ IsLost set other) → more < 2 ^ (place + 1) → IsSetBelow more (place + 1) test
set_more set more place test g passes here others low = record {
  each = λ i h. elim (cases_eq i place) [
    | inl e ↦ subst (λ (p : ℕ). is_lost more p ≡ test p) (sym e) (is_lost_from more place here ∙ sym passes)
    | inr apart ↦
        with_place-test set more place here others i ∙ or_place-other (is_lost set) place i apart ∙ g.each i (omega (arith, apart))
  ];
  within = low;
}

pub set_same : (set place : ℕ) (test : ℕ → Bool) → IsSetBelow set place test → test place ≡ false → IsSetBelow set (place + 1) test
set_same set place test g fails = record {
  each = λ i h. elim (cases_eq i place) [
    | inl e ↦ subst (λ (p : ℕ). is_lost set p ≡ test p) (sym e) (none ∙ sym fails)
    | inr apart ↦ g.each i (omega (arith, apart))
  ];
  within = omega (arith, g.within, pow-lt {i = place} {j = place + 1} (omega arith));
}
  where
    none : is_lost set place ≡ false
    none = ne_eqb (set / 2 ^ place % 2) 1 (λ on. absurd (omega (arith, lost_within set place place on g.within)))
