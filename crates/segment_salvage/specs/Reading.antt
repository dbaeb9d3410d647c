-- What a segment gives by what was found of its cells (this project's profile).
use Rattle.std.specs.Prelude.{ℕ, suc, ◌==◌, ◌||◌, ◌&&◌, nat_le, List, [], ◌∷◌, if◌then◌else◌}
use Rattle.erasure_solve.specs.Lost.{lost_count}
use Rattle.qic_base.specs.CartridgeTerms.{is_lost}
use Rattle.dump_spec.specs.Given.{Given}
use Rattle.dump_spec.specs.declared.mark.Mark.{Mark}
use Rattle.dump_spec.specs.declared.mark.Mark.TheVariants.{Sure, Unchecked, Filled}
use Rattle.segment_salvage.specs.declared.case.SegmentCase.{SegmentCase}
use Rattle.segment_salvage.specs.declared.case.SegmentCase.TheVariants.{OneBlock, OneWrong, Contradicts, AsRead}
use Rattle.segment_salvage.specs.declared.reading.SegmentReading.{SegmentReading}

-- the mark of the cell at a place, of those of which these are lost
abbrev pub mark_in : SegmentCase → (lost place : ℕ) → Mark
mark_in OneBlock lost place = if is_lost lost place && nat_le 3 (lost_count lost) then Unchecked else Sure
mark_in (OneWrong wrong) lost place = if is_lost lost place || (place == wrong) then Unchecked else Sure
mark_in Contradicts lost place = if is_lost lost place then Filled else Unchecked
mark_in AsRead lost place = if is_lost lost place then Filled else Sure

abbrev pub mark_of : SegmentReading → (place : ℕ) → Mark
mark_of reading place = mark_in reading.case reading.lost place

-- the sectors with their marks, the first of which is at this place
unfoldable pub given_as : SegmentReading → (place : ℕ) → List (List ℕ) → List Given
given_as reading place [] = []
given_as reading place (bytes ∷ sectors) =
    record { bytes = bytes; mark = mark_of reading place } ∷ given_as reading (suc place) sectors
