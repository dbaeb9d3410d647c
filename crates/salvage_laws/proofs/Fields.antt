-- The fields of a header of which no test fails.
use Rattle.std.proofs.Common.{◌≡◌, ℕ, ◌-◌, ◌*◌, ◌/◌, ◌==◌, Bool, true, false, not, List, [], ◌∷◌, Option, Some, None, refl, ap}
use Rattle.std.proofs.Common.{if◌then◌else◌}
use Rattle.std.proofs.lemmas.Bool.{eqb-true}
use Rattle.std.specs.Option.{option_or}
use Rattle.cartridge_laws.specs.HeaderTerms.{fault_as, field_fault, map_fault}
use Rattle.cartridge_spec.specs.Header.{Field, HeaderFault, first_fault, header_fault, number, number_in, tested, word_in}
use Rattle.qic_base.specs.declared.foreign.ForeignField.{ForeignField}
use Rattle.qic_base.specs.declared.foreign.ForeignField.TheVariants.{FormatCode, FirstHeader, SecondHeader, FirstData, LastData}
use Rattle.qic_base.specs.declared.foreign.ForeignField.TheVariants.{SegmentsPerTrack, Tracks, TrackMaximum, SectorMaximum, Map}

-- ---- tests in a row

-- none of these fields is at fault, and nothing behind them is
abbrev IsFaultless : List (List ℕ) → List Field → (rest : Option HeaderFault) → Type 0
IsFaultless area fs rest = option_or (first_fault area fs) rest ≡ None

later_ones : (first behind rest : Option HeaderFault) → option_or (option_or first behind) rest ≡ None → option_or behind rest ≡ None
later_ones None behind rest none = none
later_ones (Some fault) behind rest none = absurd (cc)

later : (area : List (List ℕ)) (f : Field) (fs : List Field) (rest : Option HeaderFault) → IsFaultless area (f ∷ fs) rest →
    IsFaultless area fs rest
later area f fs rest none = later_ones (field_fault area f) (first_fault area fs) rest none

here : (area : List (List ℕ)) (name : ForeignField) (offset width value : ℕ) (fs : List Field) (rest : Option HeaderFault) →
    IsFaultless area (tested name offset width value ∷ fs) rest → number_in area offset width ≡ value
here area name offset width value fs rest none = by_test (number_in area offset width == value) refl where
  by_test : (b : Bool) → (number_in area offset width == value) ≡ b → number_in area offset width ≡ value
  by_test true equal = eqb-true (number_in area offset width) value equal
  by_test false unequal =
      let some : field_fault area (tested name offset width value) ≡ Some (fault_as name (number_in area offset width)) = rw unequal refl in
      let all : option_or (first_fault area (tested name offset width value ∷ fs)) rest ≡ Some
      (fault_as name (number_in area offset width)) = ap (λ (o : Option HeaderFault). option_or (option_or o (first_fault area fs)) rest)
      some in
      absurd (cc)

-- ---- the words of the segments 0 to 2

third_word : (area : List (List ℕ)) → map_fault area ≡ None → word_in area 2 ≡ 0
third_word area none = by_tests (word_in area 0 == 0) (word_in area 1 == 0) (word_in area 2 == 0) refl none where
  by_tests : (a b d : Bool) → (word_in area 2 == 0) ≡ d →
      (if not a then Some (fault_as Map 0) else if not b then Some (fault_as Map 1) else if not d then Some (fault_as Map 2)
      else None) ≡ None →
      word_in area 2 ≡ 0
  by_tests true true true equal good = eqb-true (word_in area 2) 0 equal
  by_tests true true false equal good = absurd (cc)
  by_tests true false d equal good = absurd (cc)
  by_tests false b d equal good = absurd (cc)

-- ---- the fields

-- those of a header from one on
abbrev from_26 : ℕ → List Field
from_26 n =
    tested Tracks 26 1 28 ∷ number 27 1 ((28 * n - 1) / 600) ∷ tested TrackMaximum 28 1 149 ∷ tested SectorMaximum 29 1 128 ∷ []

abbrev from_12 : ℕ → List Field
from_12 n = tested LastData 12 2 (28 * n - 1) ∷ tested SegmentsPerTrack 24 2 n ∷ from_26 n

abbrev from_8 : ℕ → List Field
from_8 n = tested SecondHeader 8 2 1 ∷ tested FirstData 10 2 2 ∷ from_12 n

abbrev from_4 : ℕ → List Field
from_4 n = tested FormatCode 4 1 2 ∷ number 5 1 0 ∷ tested FirstHeader 6 2 0 ∷ from_8 n

pub record AreSound (area : List (List ℕ)) (n : ℕ) : Type 0 where
  pub code : number_in area 4 1 ≡ 2
  pub first : number_in area 10 2 ≡ 2
  pub last : number_in area 12 2 ≡ 28 * n - 1
  pub table_word : word_in area 2 ≡ 0

pub are_sound : (area : List (List ℕ)) (n : ℕ) → header_fault area n ≡ None → AreSound area n
are_sound area n none =
    let rest : Option HeaderFault = map_fault area in
    let at_4 : IsFaultless area (from_4 n) rest = later area (number 0 4 0xAA55_AA55) (from_4 n) rest none in
    let at_6 : IsFaultless area (tested FirstHeader 6 2 0 ∷ from_8 n) rest =
    later area (number 5 1 0) (tested FirstHeader 6 2 0 ∷ from_8 n) rest
    (later area (tested FormatCode 4 1 2) (number 5 1 0 ∷ tested FirstHeader 6 2 0 ∷ from_8 n) rest at_4) in
    let at_8 : IsFaultless area (from_8 n) rest = later area (tested FirstHeader 6 2 0) (from_8 n) rest at_6 in
    let at_10 : IsFaultless area (tested FirstData 10 2 2 ∷ from_12 n) rest =
    later area (tested SecondHeader 8 2 1) (tested FirstData 10 2 2 ∷ from_12 n) rest at_8 in
    let at_12 : IsFaultless area (from_12 n) rest = later area (tested FirstData 10 2 2) (from_12 n) rest at_10 in
    let at_26 : IsFaultless area (from_26 n) rest =
    later area (tested SegmentsPerTrack 24 2 n) (from_26 n) rest
    (later area (tested LastData 12 2 (28 * n - 1)) (tested SegmentsPerTrack 24 2 n ∷ from_26 n) rest at_12) in
    let at_28 : IsFaultless area (tested TrackMaximum 28 1 149 ∷ tested SectorMaximum 29 1 128 ∷ []) rest =
    later area (number 27 1 ((28 * n - 1) / 600)) (tested TrackMaximum 28 1 149 ∷ tested SectorMaximum 29 1 128 ∷ []) rest
    (later area (tested Tracks 26 1 28)
    (number 27 1 ((28 * n - 1) / 600) ∷ tested TrackMaximum 28 1 149 ∷ tested SectorMaximum 29 1 128 ∷ []) rest at_26) in
    let at_end : map_fault area ≡ None =
    later area (tested SectorMaximum 29 1 128) [] rest
    (later area (tested TrackMaximum 28 1 149) (tested SectorMaximum 29 1 128 ∷ []) rest at_28) in
    record {
      code = here area FormatCode 4 1 2 (number 5 1 0 ∷ tested FirstHeader 6 2 0 ∷ from_8 n) rest at_4;
      first = here area FirstData 10 2 2 (from_12 n) rest at_10;
      last = here area LastData 12 2 (28 * n - 1) (tested SegmentsPerTrack 24 2 n ∷ from_26 n) rest at_12;
      table_word = third_word area at_end;
    }
