-- Sets of places, and the unreadable cells among them.
use Rattle.std.proofs.Common.{◌≡◌, ℕ, zero, suc, ◌+◌, ◌<◌, ◌≤◌, refl, sym, ◌∙◌, ap, arith, inl, inr, Bool, true, false, List, [], ◌∷◌}
use Rattle.std.proofs.Common.{length, slice_get, Some, nat_eq, ◌||◌}
use Rattle.std.proofs.lemmas.Bool.{cases_eq, cases_Bool, false≢true, ne_eqb, or_from, or_left}
use Rattle.qic_base.specs.declared.tape.SectorView.{SectorView}
use Rattle.qic_base.specs.declared.tape.SectorView.TheVariants.{Blank, Defect, Lost, Holds}
use Rattle.gf256_qic.specs.Code.{lost_below}
use Rattle.cartridge_laws.proofs.Cells.{unreadable_at, IsReadable, readable_at}
use Rattle.gf256_qic.proofs.Agreement.{one_if, lost_below-same}

-- ---- how many

-- a set and one place more
abbrev pub or_place : (ℕ → Bool) → ℕ → ℕ → Bool
or_place lost place i = lost i || nat_eq i place

pub or_place-other : (lost : ℕ → Bool) (place i : ℕ) → (i ≡ place → ⊥) → or_place lost place i ≡ lost i
or_place-other lost place i apart =
    elim (cases_Bool (lost i)) [
      | inl on ↦ or_left (lost i) (nat_eq i place) on ∙ sym on
      | inr off ↦ or_from (lost i) (nat_eq i place) off (ne_eqb i place apart) ∙ sym off
    ]

one_if-most : (b : Bool) → one_if b ≤ 1
one_if-most true = omega arith
one_if-most false = omega arith

-- has at most one more
pub lost_below-or : (lost : ℕ → Bool) (place n : ℕ) → lost_below (or_place lost place) n ≤ lost_below lost n + 1
unfolding lost_below
lost_below-or lost place zero = omega arith
lost_below-or lost place (suc n) =
    elim (cases_eq n place) [
      | inl e ↦
          let below : lost_below (or_place lost place) n ≡ lost_below lost n =
          lost_below-same (or_place lost place) lost n (λ i h. or_place-other lost place i (λ same. absurd (omega arith))) in
          let most : one_if (or_place lost place n) ≤ 1 = one_if-most (or_place lost place n) in
          omega arith
      | inr apart ↦
          let rest : lost_below (or_place lost place) n ≤ lost_below lost n + 1 = lost_below-or lost place n in
          let here : one_if (or_place lost place n) ≡ one_if (lost n) = ap one_if (or_place-other lost place n apart) in
          omega arith
    ]

-- ---- which

-- a cell that holds bytes is not unreadable
pub held_at : (cells : List SectorView) (i : ℕ) (bytes : List ℕ) → slice_get cells i ≡ Some (Holds bytes) →
    unreadable_at cells i ≡ false
unfolding unreadable_at
held_at [] i bytes at = refl
held_at (Blank ∷ cells) zero bytes at = absurd (cc)
held_at (Defect ∷ cells) zero bytes at = absurd (cc)
held_at (Lost ∷ cells) zero bytes at = absurd (cc)
held_at (Holds held ∷ cells) zero bytes at = refl
held_at (cell ∷ cells) (suc i) bytes at = held_at cells i bytes at

-- a test that is false just where a cell holds bytes is that of the unreadable ones
pub same_test : (cells : List SectorView) (i : ℕ) (b : Bool) → i < length cells →
    (b ≡ false → IsReadable cells i) → (IsReadable cells i → b ≡ false) → b ≡ unreadable_at cells i
same_test cells i true h from to =
    elim (cases_Bool (unreadable_at cells i)) [
      | inl on ↦ sym on
      | inr off ↦ absurd (false≢true (sym (to (readable_at cells i h off))))
    ]
same_test cells i false h from to = let held : IsReadable cells i = from refl in sym (held_at cells i held.0 held.1)
