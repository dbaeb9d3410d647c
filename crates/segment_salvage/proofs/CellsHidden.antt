-- Cells of which those at the places of a set are seen as lost.
use Rattle.std.proofs.Common.{◌≡◌, ◌↔◌, ℕ, suc, ◌+◌, ◌^◌, ◌<◌, Bool, true, false, if◌then◌else◌, List, [], ◌∷◌, length, get_or, slice_get}
use Rattle.std.proofs.Common.{Option, Some, None, IsSomeAnd, inl, inr, refl, sym, ap, subst, ◌∙◌, arith}
use Rattle.std.proofs.lemmas.Bool.{cases_Bool, false≢true}
use Rattle.std.proofs.lemmas.Option.{slice_get_within, slice_get-get_or}
use Rattle.cartridge_laws.specs.Segment.{IsUnreadable, hidden}
use Rattle.cartridge_spec.specs.Says.{hidden_from}
use Rattle.cartridge_spec.specs.Shape.{sector_at}
use Rattle.dump_spec.specs.Given.{CountAs}
use Rattle.dump_spec.specs.declared.form.Form.TheVariants as forms
use Rattle.erasure_solve.proofs.Places.{is_lost_from, lost_from}
use Rattle.qic_base.specs.Cartridge.{zero_sector}
use Rattle.qic_base.specs.CartridgeTerms.{IsLost, is_lost}
use Rattle.qic_base.specs.declared.tape.SectorView.{SectorView}
use Rattle.qic_base.specs.declared.tape.SectorView.TheVariants.{Blank, Defect, Lost, Holds}
use Rattle.segment_salvage.proofs.Sets.{lost_within}
use Rattle.segment_salvage.proofs.Zeros.{are_zero, zero_sector_is}
use Rattle.segment_salvage.specs.Counted.{CountsWithout}
use Rattle.segment_salvage.specs.Filled.{filled_from}
use Rattle.silent_locate.proofs.Sectors.{length-cells_without, kept_from, kept_to}
use Rattle.silent_locate.specs.Deep.{cell_of, cells_from, cells_without}

-- ---- the lost cells are lost already

same_one : (b : Bool) (bytes : List ℕ) → (if b then Lost else cell_of b bytes) ≡ cell_of b bytes
same_one true bytes = refl
same_one false bytes = refl

pub hidden_same : (lost place : ℕ) (sectors : List (List ℕ)) →
    hidden_from lost place (cells_from lost place sectors) ≡ cells_from lost place sectors
unfolding hidden_from cells_from
hidden_same lost place [] = refl
hidden_same lost place (bytes ∷ sectors) =
    ap (λ (view : SectorView). view ∷ hidden_from lost (suc place) (cells_from lost (suc place) sectors))
    (same_one (is_lost lost place) bytes)
    ∙ ap (λ (cells : List SectorView). cell_of (is_lost lost place) bytes ∷ cells) (hidden_same lost (suc place) sectors)

-- ---- and those of zero bytes beside them

zero_one : (zeroed lost_one : Bool) (bytes : List ℕ) → zeroed ≡ are_zero (if lost_one then zero_sector else bytes) →
    (if zeroed then Lost else cell_of lost_one bytes) ≡ cell_of zeroed (if lost_one then zero_sector else bytes)
zero_one true lost_one bytes test = refl
zero_one false true bytes test = absurd (false≢true (test ∙ zero_sector_is))
zero_one false false bytes test = refl

hidden_from-zeros : (set lost place : ℕ) (olds : List (List ℕ)) →
    ((i : ℕ) → i < length olds → is_lost set (place + i) ≡ are_zero (sector_at (filled_from lost place olds) i)) →
    hidden_from set place (cells_from lost place olds) ≡ cells_from set place (filled_from lost place olds)
unfolding hidden_from cells_from filled_from
hidden_from-zeros set lost place [] tests = refl
hidden_from-zeros set lost place (bytes ∷ olds) tests =
    let here : place + 0 ≡ place = omega arith in
    let test : is_lost set place ≡ are_zero (if is_lost lost place then zero_sector else bytes) =
    subst (λ (p : ℕ). is_lost set p ≡ are_zero (if is_lost lost place then zero_sector else bytes)) here (tests 0 (omega arith)) in
    ap (λ (view : SectorView). view ∷ hidden_from set (suc place) (cells_from lost (suc place) olds))
    (zero_one (is_lost set place) (is_lost lost place) bytes test)
    ∙ ap (λ (cells : List SectorView). cell_of (is_lost set place) (if is_lost lost place then zero_sector else bytes) ∷ cells)
    (hidden_from-zeros set lost (suc place) olds (λ i h.
    let next : place + suc i ≡ suc place + i = omega arith in
    subst (λ (p : ℕ). is_lost set p ≡ are_zero (sector_at (filled_from lost (suc place) olds) i)) next (tests (suc i) (omega arith))))

pub hidden_zeros : (set lost : ℕ) (old : List (List ℕ)) →
    ((i : ℕ) → i < length old → is_lost set i ≡ are_zero (sector_at (filled_from lost 0 old) i)) →
    hidden set (cells_without lost old) ≡ cells_without set (filled_from lost 0 old)
hidden_zeros set lost old tests =
    hidden_from-zeros set lost 0 old (λ i h.
    let same : i ≡ 0 + i = omega arith in
    subst (λ (p : ℕ). is_lost set p ≡ are_zero (sector_at (filled_from lost 0 old) i)) same (tests i h))

-- ---- the places of lost cells

unreadable_lost : (lost place : ℕ) (held : List (List ℕ)) → place < length held → IsLost lost place →
    IsSomeAnd (slice_get (cells_without lost held) place) IsUnreadable
unreadable_lost lost place held within on =
    by_cell (get_or cells place Blank) (slice_get-get_or cells place Blank (omega (arith, length-cells_without lost held)))
  where
    cells : List SectorView
    cells = cells_without lost held

    kept : (bytes : List ℕ) → slice_get cells place ≡ Some (Holds bytes) → ⊥
    kept bytes at = false≢true (sym (kept_from lost held place bytes at).kept ∙ is_lost_from lost place on)

    by_cell : (cell : SectorView) → slice_get cells place ≡ Some cell → IsSomeAnd (slice_get cells place) IsUnreadable
    by_cell Blank at = subst (λ (o : Option SectorView). IsSomeAnd o IsUnreadable) (sym at) refl
    by_cell Defect at = subst (λ (o : Option SectorView). IsSomeAnd o IsUnreadable) (sym at) refl
    by_cell Lost at = subst (λ (o : Option SectorView). IsSomeAnd o IsUnreadable) (sym at) refl
    by_cell (Holds bytes) at = absurd (kept bytes at)

lost_unreadable : (lost place : ℕ) (held : List (List ℕ)) → IsSomeAnd (slice_get (cells_without lost held) place) IsUnreadable →
    IsLost lost place
lost_unreadable lost place held unread =
    elim (cases_Bool (is_lost lost place)) [
      | inl on ↦ lost_from lost place on
      | inr off ↦
          let held_is : slice_get held place ≡ Some (get_or held place []) = slice_get-get_or held place [] within in
          let kept : slice_get cells place ≡ Some (Holds (get_or held place [])) =
          kept_to lost held place (get_or held place []) off held_is in
          absurd (false≢true (subst (λ (o : Option SectorView). IsSomeAnd o IsUnreadable) kept unread))
    ]
  where
    cells : List SectorView
    cells = cells_without lost held

    there : (o : Option SectorView) → slice_get cells place ≡ o → IsSomeAnd o IsUnreadable → place < length cells
    there None at is = absurd is
    there (Some view) at is = slice_get_within cells place view at

    within : place < length held
    within = omega (arith, there (slice_get cells place) refl unread, length-cells_without lost held)

pub counts_without : (zero_lost : Bool) (cells : List SectorView) (lost : ℕ) (held : List (List ℕ)) → lost < 2 ^ length held →
    hidden lost cells ≡ cells_without lost held → CountAs forms.Sectors zero_lost cells (cells_without lost held) →
    CountsWithout zero_lost cells lost
counts_without zero_lost cells lost held low shown counts = record {
  counts = subst (CountAs forms.Sectors zero_lost cells) (sym shown) counts;
  each = λ place.
      subst (λ (cs : List SectorView). IsLost lost place ↔ IsSomeAnd (slice_get cs place) IsUnreadable) (sym shown)
      (λ on. unreadable_lost lost place held (lost_within lost place (length held) on low) on, lost_unreadable lost place held);
}
