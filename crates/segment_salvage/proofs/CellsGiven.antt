-- What is given of the cells of sectors is what is left of these, with the marks.
use Rattle.std.proofs.Common.{◌≡◌, ℕ, zero, suc, ◌+◌, Bool, true, false, ◌&&◌, ◌||◌, nat_eq, if◌then◌else◌, nat_le, List, [], ◌∷◌}
use Rattle.std.proofs.Common.{length, take, drop, refl, sym, ap, ◌∙◌, arith}
use Rattle.std.proofs.Math.ListN.{drop_of_length-le}
use Rattle.std.proofs.Math.Seq.{drop-cons}
use Rattle.std.proofs.lemmas.Option.{unwrap_or-slice_get}
use Rattle.dump_laws.proofs.Blocks.{ends-there, one-less, starts-before}
use Rattle.cartridge_spec.specs.Shape.{sector_at, is_unreadable}
use Rattle.dump_spec.specs.Given.{Given, given_from, solved_cell, mended_cell, read_cell}
use Rattle.dump_spec.specs.Given as given
use Rattle.dump_spec.specs.declared.mark.Mark.TheVariants.{Sure, Unchecked, Filled}
use Rattle.erasure_solve.specs.Lost.{lost_count}
use Rattle.qic_base.specs.Cartridge.{zero_sector}
use Rattle.qic_base.specs.CartridgeTerms.{is_lost}
use Rattle.segment_salvage.specs.Filled.{filled_from}
use Rattle.segment_salvage.specs.Found.{case_with, IsLeft}
use Rattle.segment_salvage.specs.Reading.{mark_in, given_as}
use Rattle.segment_salvage.specs.declared.case.SegmentCase.{SegmentCase}
use Rattle.segment_salvage.specs.declared.case.SegmentCase.TheVariants.{OneBlock, OneWrong, Contradicts, AsRead}
use Rattle.segment_salvage.specs.declared.reading.SegmentReading.{SegmentReading}
use Rattle.silent_locate.specs.Deep.{cell_of, cells_from}

abbrev reading_of : SegmentCase → (lost : ℕ) → SegmentReading
reading_of case lost = record { case = case; lost = lost }

-- ---- one cell

unread_is : (b : Bool) (bytes : List ℕ) → is_unreadable (cell_of b bytes) ≡ b
unread_is true bytes = refl
unread_is false bytes = refl

abbrev IsGivenAs : Given → SegmentCase → (lost place : ℕ) → List ℕ → Type 0
IsGivenAs g case lost place bytes = g ≡ record { bytes = bytes; mark = mark_in case lost place }

solved : (block : List (List ℕ)) (lost place : ℕ) (bytes : List ℕ) →
    IsGivenAs (solved_cell block (lost_count lost) place (cell_of (is_lost lost place) bytes)) OneBlock lost place (sector_at block place)
solved block lost place bytes =
    ap (λ (b : Bool). record { bytes = sector_at block place; mark = if b && nat_le 3 (lost_count lost) then Unchecked else Sure })
    (unread_is (is_lost lost place) bytes)

mended : (block : List (List ℕ)) (lost wrong place : ℕ) (bytes : List ℕ) →
    IsGivenAs (mended_cell block wrong place (cell_of (is_lost lost place) bytes)) (OneWrong wrong) lost place (sector_at block place)
mended block lost wrong place bytes =
    ap (λ (b : Bool). record { bytes = sector_at block place; mark = if b || nat_eq place wrong then Unchecked else Sure })
    (unread_is (is_lost lost place) bytes)

contradicted : (b : Bool) (bytes : List ℕ) → read_cell Unchecked (cell_of b bytes)
    ≡ record { bytes = if b then zero_sector else bytes; mark = if b then Filled else Unchecked }
contradicted true bytes = refl
contradicted false bytes = refl

stood : (b : Bool) (bytes : List ℕ) → read_cell Sure (cell_of b bytes)
    ≡ record { bytes = if b then zero_sector else bytes; mark = if b then Filled else Sure }
stood true bytes = refl
stood false bytes = refl

-- ---- all of them

-- a block, from a place on
block_parts : (block : List (List ℕ)) (place n : ℕ) → length block ≡ place + suc n → drop place block ≡ sector_at block place ∷
    drop (suc place) block
block_parts block place n e =
    drop-cons block place [] (starts-before (length block) place n e)
    ∙ ap (λ (s : List ℕ). s ∷ drop (suc place) block) (sym (unwrap_or-slice_get block place []))

solved_from : (block : List (List ℕ)) (lost place : ℕ) (olds : List (List ℕ)) → length block ≡ place + length olds →
    given_from (given.OneBlock block) (lost_count lost) place (cells_from lost place olds)
    ≡ given_as (reading_of OneBlock lost) place (drop place block)
unfolding given_from cells_from given_as
solved_from block lost place [] e =
    ap (given_as (reading_of OneBlock lost) place) (sym (drop_of_length-le block (ends-there (length block) place e)))
solved_from block lost place (bytes ∷ olds) e =
    ap (λ (g : Given). g ∷ given_from (given.OneBlock block) (lost_count lost) (suc place) (cells_from lost (suc place) olds))
    (solved block lost place bytes)
    ∙ ap (λ (t : List Given). record { bytes = sector_at block place; mark = mark_in OneBlock lost place } ∷ t)
    (solved_from block lost (suc place) olds (one-less (length block) place (length olds) e))
    ∙ ap (given_as (reading_of OneBlock lost) place) (sym (block_parts block place (length olds) e))

mended_from : (block : List (List ℕ)) (lost wrong place : ℕ) (olds : List (List ℕ)) → length block ≡ place + length olds →
    given_from (given.OneWrong block wrong) (lost_count lost) place (cells_from lost place olds)
    ≡ given_as (reading_of (OneWrong wrong) lost) place (drop place block)
unfolding given_from cells_from given_as
mended_from block lost wrong place [] e =
    ap (given_as (reading_of (OneWrong wrong) lost) place) (sym (drop_of_length-le block (ends-there (length block) place e)))
mended_from block lost wrong place (bytes ∷ olds) e =
    ap (λ (g : Given). g ∷ given_from (given.OneWrong block wrong) (lost_count lost) (suc place) (cells_from lost (suc place) olds))
    (mended block lost wrong place bytes)
    ∙ ap (λ (t : List Given). record { bytes = sector_at block place; mark = mark_in (OneWrong wrong) lost place } ∷ t)
    (mended_from block lost wrong (suc place) olds (one-less (length block) place (length olds) e))
    ∙ ap (given_as (reading_of (OneWrong wrong) lost) place) (sym (block_parts block place (length olds) e))

contradicted_from : (n lost place : ℕ) (olds : List (List ℕ)) →
    given_from given.Contradicts n place (cells_from lost place olds) ≡ given_as (reading_of Contradicts lost) place
    (filled_from lost place olds)
unfolding given_from cells_from given_as filled_from
contradicted_from n lost place [] = refl
contradicted_from n lost place (bytes ∷ olds) =
    ap (λ (g : Given). g ∷ given_from given.Contradicts n (suc place) (cells_from lost (suc place) olds)) (contradicted (is_lost lost place)
    bytes)
    ∙ ap (λ (t : List Given). record { bytes = if is_lost lost place then zero_sector else bytes; mark = mark_in Contradicts lost place } ∷
    t)
    (contradicted_from n lost (suc place) olds)

pub stood_from : (n lost place : ℕ) (olds : List (List ℕ)) →
    given_from given.AsRead n place (cells_from lost place olds) ≡ given_as (reading_of AsRead lost) place (filled_from lost place olds)
unfolding given_from cells_from given_as filled_from
stood_from n lost place [] = refl
stood_from n lost place (bytes ∷ olds) =
    ap (λ (g : Given). g ∷ given_from given.AsRead n (suc place) (cells_from lost (suc place) olds)) (stood (is_lost lost place) bytes)
    ∙ ap (λ (t : List Given). record { bytes = if is_lost lost place then zero_sector else bytes; mark = mark_in AsRead lost place } ∷ t)
    (stood_from n lost (suc place) olds)

-- what is left of sectors is what is given of their cells
pub left_given : (case : SegmentCase) (lost : ℕ) (old new : List (List ℕ)) → IsLeft case lost old new →
    given_from (case_with case new) (lost_count lost) 0 (cells_from lost 0 old) ≡ given_as (reading_of case lost) 0 new
left_given OneBlock lost old new left = solved_from new lost 0 old (left ∙ whole (length old))
  where
    whole : (n : ℕ) → n ≡ 0 + n
    whole n = omega arith
left_given (OneWrong wrong) lost old new left = mended_from new lost wrong 0 old (left ∙ whole (length old))
  where
    whole : (n : ℕ) → n ≡ 0 + n
    whole n = omega arith
left_given Contradicts lost old new left =
    contradicted_from (lost_count lost) lost 0 old ∙ ap (given_as (reading_of Contradicts lost) 0) (sym left)
left_given AsRead lost old new left = stood_from (lost_count lost) lost 0 old ∙ ap (given_as (reading_of AsRead lost) 0) (sym left)

-- the first of them are those of the first sectors
pub take-given_as : (reading : SegmentReading) (place n : ℕ) (sectors : List (List ℕ)) →
    take n (given_as reading place sectors) ≡ given_as reading place (take n sectors)
unfolding given_as
take-given_as reading place zero sectors = refl
take-given_as reading place (suc n) [] = refl
take-given_as reading place (suc n) (bytes ∷ sectors) =
    ap (λ (t : List Given). record { bytes = bytes; mark = mark_in reading.case reading.lost place } ∷ t) (take-given_as reading (suc place)
    n sectors)
