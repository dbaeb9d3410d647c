-- The cells of a segment by place: which of them are unreadable, and how many.
use Rattle.std.proofs.Common.{ℕ, zero, suc, Bool, false, List, [], ◌∷◌, ◌≡◌, ◌+◌, refl, arith, sym, ◌∙◌, ap, length, slice_get, Some, ◌<◌}
use Rattle.std.proofs.Common.{◌≤◌, take, zero-add, true, cond}
use Rattle.std.proofs.lemmas.List.Sums.{sum_by-cons}
use Rattle.cartridge_spec.specs.Code.{IsCodeBlock}
use Rattle.cartridge_spec.specs.Says.{unreadable_count, Agrees}
use Rattle.cartridge_spec.specs.Shape.{is_unreadable}
use Rattle.gf256_qic.proofs.Agreement.{one_block, one_if, lost_below-first}
use Rattle.gf256_qic.specs.Code.{lost_below, AgreesOutside}
use Rattle.qic_base.specs.declared.tape.SectorView.{SectorView}
use Rattle.qic_base.specs.declared.tape.SectorView.TheVariants.{Holds, Blank, Defect, Lost}

-- whether the cell at a place is unreadable
unfoldable pub unreadable_at : List SectorView → ℕ → Bool
unreadable_at [] i = false
unreadable_at (cell ∷ cells) zero = is_unreadable cell
unreadable_at (cell ∷ cells) (suc i) = unreadable_at cells i

-- the unreadable cells, the first of them apart
pub unreadable_count-first : (cell : SectorView) (cells : List SectorView) →
    unreadable_count (cell ∷ cells) ≡ one_if (is_unreadable cell) + unreadable_count cells
unreadable_count-first cell cells = sum_by-cons (λ c. one_if (is_unreadable c)) cell cells

-- as many places are lost as cells are unreadable
pub lost_below-cells : (cells : List SectorView) → lost_below (unreadable_at cells) (length cells) ≡ unreadable_count cells
unfolding unreadable_at lost_below
lost_below-cells [] = refl
lost_below-cells (cell ∷ cells) =
    lost_below-first (unreadable_at (cell ∷ cells)) (length cells)
    ∙ ap (λ (n : ℕ). one_if (is_unreadable cell) + n) (lost_below-cells cells)
    ∙ sym (unreadable_count-first cell cells)

-- the cell at a place holds bytes
abbrev pub IsReadable : List SectorView → ℕ → Type 0
IsReadable cells i = (bytes : List ℕ) × (slice_get cells i ≡ Some (Holds bytes))

-- a cell that is not unreadable holds bytes
pub readable_at : (cells : List SectorView) (i : ℕ) → i < length cells → unreadable_at cells i ≡ false → IsReadable cells i
unfolding unreadable_at
readable_at [] i h kept = absurd (omega arith)
readable_at (Blank ∷ cells) zero h kept = absurd (cc)
readable_at (Defect ∷ cells) zero h kept = absurd (cc)
readable_at (Lost ∷ cells) zero h kept = absurd (cc)
readable_at (Holds bytes ∷ cells) zero h kept = (bytes, refl)
readable_at (cell ∷ cells) (suc i) h kept = readable_at cells i (omega arith) kept

-- blocks that agree with the cells agree with each other outside the unreadable ones
blocks_agree : (cells : List SectorView) (ss ts : List (List ℕ)) → Agrees cells ss → Agrees cells ts →
    AgreesOutside (unreadable_at cells) ss ts
blocks_agree cells ss ts hs ht = record {
  size = hs.size ∙ sym ht.size;
  others = λ i h kept.
      let long : length ss ≡ length cells = hs.size in
      let held : IsReadable cells i = readable_at cells i (omega arith) kept in
      hs.each i held.0 held.1 ∙ sym (ht.each i held.0 held.1);
}

-- at most one code block agrees with cells of which at most three are unreadable
pub one_agreeing_block : (cells : List SectorView) (ss ts : List (List ℕ)) → IsCodeBlock ss → IsCodeBlock ts →
    Agrees cells ss → Agrees cells ts → unreadable_count cells ≤ 3 → ss ≡ ts
one_agreeing_block cells ss ts cs ct hs ht few =
    let lost : lost_below (unreadable_at cells) (length ss) ≡ unreadable_count cells =
    ap (lost_below (unreadable_at cells)) hs.size ∙ lost_below-cells cells in
    one_block (unreadable_at cells) ss ts cs ct (blocks_agree cells ss ts hs ht) (omega arith)

-- ---- the first cells

-- none of the first cells is unreadable where each of them holds bytes
pub count_of_readable : (n : ℕ) (cells : List SectorView) → ((i : ℕ) → i < n → IsReadable cells i) →
    unreadable_count (take n cells) ≡ 0
count_of_readable zero cells each = refl
count_of_readable (suc n) [] each = refl
count_of_readable (suc n) (Blank ∷ cells) each = let first = (each 0 (omega arith)).1 in absurd (cc)
count_of_readable (suc n) (Defect ∷ cells) each = let first = (each 0 (omega arith)).1 in absurd (cc)
count_of_readable (suc n) (Lost ∷ cells) each = let first = (each 0 (omega arith)).1 in absurd (cc)
count_of_readable (suc n) (Holds bytes ∷ cells) each =
    unreadable_count-first (Holds bytes) (take n cells)
    ∙ zero-add (unreadable_count (take n cells))
    ∙ count_of_readable n cells (λ i h. each (suc i) (omega arith))

-- and only there
pub readable_from_count : (n : ℕ) (cells : List SectorView) → n ≤ length cells → unreadable_count (take n cells) ≡ 0 →
    (i : ℕ) → i < n → IsReadable cells i
readable_from_count zero cells long none i h = absurd (omega arith)
readable_from_count (suc n) [] long none i h = absurd (omega arith)
readable_from_count (suc n) (Blank ∷ cells) long none i h = absurd (omega (arith, unreadable_count-first Blank (take n cells)))
readable_from_count (suc n) (Defect ∷ cells) long none i h = absurd (omega (arith, unreadable_count-first Defect (take n cells)))
readable_from_count (suc n) (Lost ∷ cells) long none i h = absurd (omega (arith, unreadable_count-first Lost (take n cells)))
readable_from_count (suc n) (Holds bytes ∷ cells) long none zero h = (bytes, refl)
readable_from_count (suc n) (Holds bytes ∷ cells) long none (suc i) h =
    let rest : unreadable_count (take n cells) ≡ 0 =
    omega (arith, unreadable_count-first (Holds bytes) (take n cells)) in
    readable_from_count n cells (omega arith) rest i (omega arith)

-- a test that counts as one at most
pub one_if_any : (b : Bool) → cond b 1 0 ≤ 1
one_if_any true = omega arith
one_if_any false = omega arith
