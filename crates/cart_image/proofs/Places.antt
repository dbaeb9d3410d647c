-- The places that a set names.
use Rattle.std.proofs.Common.{◌≡◌, ◌≢◌, ℕ, zero, suc, ◌+◌, ◌<◌, ◌⊎◌, inl, inr, true, List, [], ◌∷◌, length, get_or}
use Rattle.std.proofs.Common.{refl, sym, ◌∙◌, ap, arith, subst}
use Rattle.std.specs.List.{All}
use Rattle.std.specs.Prelude.{◌/◌, ◌%◌, ◌^◌}
use Rattle.std.proofs.lemmas.Bool.{cases_eq, eq-eqb, eqb-true}
use Rattle.std.proofs.lemmas.List.{get_or_at, get_or_append_left, length-append}
use Rattle.std.proofs.lemmas.List.Elements.{All-nil, All-push, All-weaker}
use Rattle.qic_base.specs.Cartridge.{lost_places}
use Rattle.qic_base.specs.CartridgeTerms.{IsLost, is_lost}
use Rattle.qic_base.proofs.LostSetLaws.{lost_places-lost, lost_places-kept}

none-below : (set : ℕ) → lost_places set 0 ≡ []
unfolding lost_places
none-below set = refl

more-places : (set n : ℕ) → lost_places set (suc n) ≡ lost_places set (n + 1)
more-places set n = ap (lost_places set) (omega arith)

-- each is below the number, and in the set
pub places-are : (set n : ℕ) → All (λ i. (i < n) × (is_lost set i ≡ true)) (lost_places set n)
places-are set zero =
    subst (All (λ i. (i < 0) × (is_lost set i ≡ true))) (sym (none-below set)) (All-nil (λ i. (i < 0) × (is_lost set i ≡ true)))
places-are set (suc n) =
    by_bit (cases_eq (set / 2 ^ n % 2) 1)
    (All-weaker (λ i. (i < n) × (is_lost set i ≡ true)) (λ i. (i < suc n) × (is_lost set i ≡ true))
    (λ i is. ((let less = is.0 in omega arith), is.1)) (lost_places set n) (places-are set n))
  where
    by_bit : IsLost set n ⊎ (IsLost set n → ⊥) → All (λ i. (i < suc n) × (is_lost set i ≡ true)) (lost_places set n) →
        All (λ i. (i < suc n) × (is_lost set i ≡ true)) (lost_places set (suc n))
    by_bit (inl lost) before =
        subst (All (λ i. (i < suc n) × (is_lost set i ≡ true))) (sym (more-places set n ∙ lost_places-lost set n lost))
        (All-push (λ i. (i < suc n) × (is_lost set i ≡ true)) (lost_places set n) n before ((omega arith), eq-eqb _ 1 lost))
    by_bit (inr kept) before =
        subst (All (λ i. (i < suc n) × (is_lost set i ≡ true))) (sym (more-places set n ∙ lost_places-kept set n kept)) before

-- each one of the set that is below the number stands among them
abbrev IsAmong : (i : ℕ) → List ℕ → Type 0
IsAmong i places = (k : ℕ) × (k < length places) × (get_or places k 0 ≡ i)

pub place-among : (set n i : ℕ) → i < n → is_lost set i ≡ true →
    (k : ℕ) × (k < length (lost_places set n)) × (get_or (lost_places set n) k 0 ≡ i)
place-among set zero i less bit = absurd (omega arith)
place-among set (suc n) i less bit =
    by_place (cases_eq i n) (cases_eq (set / 2 ^ n % 2) 1) (λ ne. place-among set n i (omega arith) bit)
  where
    by_place : (i ≡ n) ⊎ (i ≢ n) → IsLost set n ⊎ (IsLost set n → ⊥) → (i ≢ n → IsAmong i (lost_places set n)) →
        IsAmong i (lost_places set (suc n))
    by_place (inl same) (inl lost) before =
        let long = length-append (lost_places set n) (n ∷ []) in
        subst (IsAmong i) (sym (more-places set n ∙ lost_places-lost set n lost)) (
          length (lost_places set n),
          (omega arith),
          get_or_at (lost_places set n) n [] 0 (length (lost_places set n)) refl ∙ sym same,
        )
    by_place (inl same) (inr kept) before = absurd (kept (subst (IsLost set) same (eqb-true _ 1 bit)))
    by_place (inr ne) (inl lost) before =
        let at = before ne in
        let inside = at.1 in
        let long = length-append (lost_places set n) (n ∷ []) in
        subst (IsAmong i) (sym (more-places set n ∙ lost_places-lost set n lost)) (
          at.0,
          (omega arith),
          get_or_append_left (lost_places set n) (n ∷ []) 0 at.0 at.1 ∙ at.2,
        )
    by_place (inr ne) (inr kept) before = subst (IsAmong i) (sym (more-places set n ∙ lost_places-kept set n kept)) (before ne)
