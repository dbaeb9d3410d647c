-- The cells that count: those that are found to have no block are looked at once more without zero bytes.
use Rattle.std.proofs.Common.{◌≡◌, ℕ, ◌^◌, ◌<◌, Bool, true, false, List, length, map, None, Some, refl, sym, ap, subst, ◌∙◌, inl, inr, ◌⊎◌}
use Rattle.std.proofs.lemmas.Bool.{false≢true}
use Rattle.cartridge_spec.specs.Shape.{sector_at}
use Rattle.dump_spec.specs.Given.{CountAs, IsCase, HasReading, without_zeros}
use Rattle.dump_spec.specs.declared.form.Form.TheVariants as forms
use Rattle.qic_base.specs.CartridgeTerms.{is_lost}
use Rattle.qic_base.specs.declared.tape.SectorView.{SectorView}
use Rattle.segment_salvage.proofs.Found.{none_of_many}
use Rattle.cartridge_laws.specs.Segment.{hidden}
use Rattle.segment_salvage.proofs.CellsHidden.{hidden_same, hidden_zeros}
use Rattle.segment_salvage.proofs.Zeros.{are_zero, cells_without_zeros, length-filled_from}
use Rattle.segment_salvage.specs.Filled.{filled_from}
use Rattle.segment_salvage.specs.Found.{case_with, has_block, IsFound, IsLeft, IsCounted}
use Rattle.segment_salvage.specs.declared.case.SegmentCase.{SegmentCase}
use Rattle.segment_salvage.specs.declared.case.SegmentCase.TheVariants.{OneBlock, OneWrong, Contradicts, AsRead}
use Rattle.segment_salvage.specs.declared.reading.SegmentReading.{SegmentReading}
use Rattle.silent_locate.specs.Deep.{HasNoReading, cells_without}

-- equally many are left
pub length_left : (case : SegmentCase) (lost : ℕ) (old new : List (List ℕ)) → IsLeft case lost old new → length new ≡ length old
length_left OneBlock lost old new left = left
length_left (OneWrong place) lost old new left = left
length_left Contradicts lost old new left = ap length left ∙ length-filled_from lost 0 old
length_left AsRead lost old new left = ap length left ∙ length-filled_from lost 0 old

-- the set that is looked at is the answer's
lost_as : (lost : ℕ) (old new : List (List ℕ)) (reading : SegmentReading) → IsFound lost old reading new →
    IsFound reading.lost old reading new
lost_as lost old new reading found = subst (λ (set : ℕ). IsFound set old reading new) (sym found.lost_is) found

-- ---- found at once

counts_at_once : (zero_lost : Bool) (cells : List SectorView) → HasReading cells → CountAs forms.Sectors zero_lost cells cells
counts_at_once true cells reads = inl (reads, refl)
counts_at_once false cells reads = refl

counted_at : (zero_lost : Bool) (lost : ℕ) (old new : List (List ℕ)) (reading : SegmentReading) → lost < 2 ^ length old →
    IsFound lost old reading new → CountAs forms.Sectors zero_lost (cells_without lost old) (cells_without lost old) →
    IsCounted zero_lost (cells_without lost old) reading new
counted_at zero_lost lost old new reading low found counts = record {
  held = old;
  size = sym (length_left reading.case lost old new found.left);
  within = subst (λ (set : ℕ). set < 2 ^ length old) (sym found.lost_is) low;
  counts = subst (λ (set : ℕ). CountAs forms.Sectors zero_lost (cells_without lost old) (cells_without set old)) (sym found.lost_is) counts;
  shown = subst (λ (set : ℕ). hidden set (cells_without lost old) ≡ cells_without set old) (sym found.lost_is) (hidden_same lost 0 old);
  found = lost_as lost old new reading found;
}

counts_settled : (zero_lost : Bool) (case : SegmentCase) (cells : List SectorView) (new : List (List ℕ)) → (zero_lost ≡ false) ⊎
    (has_block case ≡ true) →
    IsCase forms.Sectors cells (case_with case new) → CountAs forms.Sectors zero_lost cells cells
counts_settled zero_lost OneBlock cells new settled is_case = counts_at_once zero_lost cells (new, None, is_case)
counts_settled zero_lost (OneWrong place) cells new settled is_case = counts_at_once zero_lost cells (new, Some place, is_case)
counts_settled false Contradicts cells new settled is_case = refl
counts_settled true Contradicts cells new settled is_case = elim settled [ inl off ↦ absurd (cc) | inr on ↦ absurd (cc) ]
counts_settled false AsRead cells new settled is_case = refl
counts_settled true AsRead cells new settled is_case = elim settled [ inl off ↦ absurd (cc) | inr on ↦ absurd (cc) ]

pub counted_settled : (zero_lost : Bool) (lost : ℕ) (old new : List (List ℕ)) (reading : SegmentReading) → lost < 2 ^ length old →
    IsFound lost old reading new → (zero_lost ≡ false) ⊎ (has_block reading.case ≡ true) → IsCounted zero_lost (cells_without lost old)
    reading new
counted_settled zero_lost lost old new reading low found settled =
    counted_at zero_lost lost old new reading low found
    (counts_settled zero_lost reading.case (cells_without lost old) new settled found.is_case)

-- ---- found once more

pub none_found : (case : SegmentCase) (cells : List SectorView) (new : List (List ℕ)) → has_block case ≡ false →
    IsCase forms.Sectors cells (case_with case new) → HasNoReading cells
none_found OneBlock cells new none is_case = absurd (false≢true (sym none))
none_found (OneWrong place) cells new none is_case = absurd (false≢true (sym none))
none_found Contradicts cells new none is_case = is_case.1
none_found AsRead cells new none is_case = none_of_many cells is_case

left_filled : (case : SegmentCase) (lost : ℕ) (old new : List (List ℕ)) → has_block case ≡ false → IsLeft case lost old new →
    new ≡ filled_from lost 0 old
left_filled OneBlock lost old new none left = absurd (false≢true (sym none))
left_filled (OneWrong place) lost old new none left = absurd (false≢true (sym none))
left_filled Contradicts lost old new none left = left
left_filled AsRead lost old new none left = left

pub counted_again : (lost zeroed : ℕ) (old mid new : List (List ℕ)) (first reading : SegmentReading) →
    IsFound lost old first mid → has_block first.case ≡ false →
    ((place : ℕ) → place < length mid → is_lost zeroed place ≡ are_zero (sector_at mid place)) → zeroed < 2 ^ length mid →
    IsFound zeroed mid reading new → IsCounted true (cells_without lost old) reading new
counted_again lost zeroed old mid new first reading before none tests low found =
    let filled : mid ≡ filled_from lost 0 old = left_filled first.case lost old mid none before.left in
    let same_tests : (place : ℕ) → place < length old → is_lost zeroed place ≡ are_zero (sector_at (filled_from lost 0 old) place) =
    λ place h. subst (λ (s : List (List ℕ)). is_lost zeroed place ≡ are_zero (sector_at s place)) filled
    (tests place (subst (λ (n : ℕ). place < n) (sym (length_left first.case lost old mid before.left)) h)) in
    let cells_are : cells_without zeroed mid ≡ map without_zeros (cells_without lost old) =
    ap (cells_without zeroed) filled ∙ cells_without_zeros zeroed lost old same_tests in
    record {
      held = mid;
      size = sym (length_left reading.case zeroed mid new found.left);
      within = subst (λ (set : ℕ). set < 2 ^ length mid) (sym found.lost_is) low;
      counts = inr (
        none_found first.case (cells_without lost old) mid none before.is_case,
        ap (λ (set : ℕ). cells_without set mid) found.lost_is ∙ cells_are,
      );
      shown = subst (λ (set : ℕ). hidden set (cells_without lost old) ≡ cells_without set mid) (sym found.lost_is)
          (hidden_zeros zeroed lost old same_tests ∙ ap (cells_without zeroed) (sym filled));
      found = lost_as zeroed mid new reading found;
    }
