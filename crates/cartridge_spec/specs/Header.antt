-- The header: the data area of segments 0 and 1, 29 sectors (Linux ftape headers: the fields, their offsets and widths,
-- and the bad sector map; the values that are written and the tests on reading are this project's profile).
use Rattle.std.specs.Prelude.{ℕ, ◌/◌, ◌%◌, List, slice_index, ◌+◌, slice_range, ◌*◌, map, ◌<◌, ◌≤◌, Option, None, Some, ◌-◌, [], ◌∷◌, ◌≡◌}
use Rattle.std.specs.Prelude.{All, ◌++◌, ◌==◌, Bool, if◌then◌else◌, not}
use Rattle.std.specs.List.{range_with_len}
use Rattle.std.specs.Option.{option_map, option_or}
use Rattle.cartridge_spec.specs.Shape.{sector_at}
use Rattle.qic_base.specs.Field.{number_at}
use Rattle.qic_base.specs.declared.foreign.ForeignField.{ForeignField}
use Rattle.qic_base.specs.declared.foreign.ForeignField.TheVariants.{FormatCode, FirstHeader, SecondHeader, FirstData, LastData}
use Rattle.qic_base.specs.declared.foreign.ForeignField.TheVariants.{SegmentsPerTrack, Tracks, TrackMaximum, SectorMaximum, Map}

-- the number in the field of this many bytes that begins at an offset; no field lies in two sectors
abbrev pub number_in : List (List ℕ) → (offset width : ℕ) → ℕ
number_in area offset width = number_at (sector_at area (offset / 1024)) (offset % 1024) width

-- the word of a segment in the bad sector map
abbrev pub word_in : List (List ℕ) → ℕ → ℕ
word_in area segment = number_in area (2048 + 4 * segment) 4

-- what a header tells: the date words of formatting and of writing, the segments per track, and the label of 44 bytes with
-- its date word
pub record Header : Type 0 where
  pub format_date : ℕ
  pub write_date : ℕ
  pub segments_per_track : ℕ
  pub label : List ℕ
  pub label_date : ℕ

-- a little-endian number, or bytes as they are
pub data Value : Type 0 where
  Number : ℕ → Value
  Text : List ℕ → Value

-- a field: its offset, its width in bytes, its value, and the name under which another value is refused; None where none
-- is refused
pub record Field : Type 0 where
  pub offset : ℕ
  pub width : ℕ
  pub value : Value
  pub test : Option ForeignField

abbrev pub number : (offset width value : ℕ) → Field
number offset width value = record { offset = offset; width = width; value = Number value; test = None }

abbrev pub tested : ForeignField → (offset width value : ℕ) → Field
tested name offset width value = record { offset = offset; width = width; value = Number value; test = Some name }

-- the fields that follow from the number of segments per track
abbrev pub profile_fields : ℕ → List Field
profile_fields n =
    number 0 4 0xAA55_AA55
    ∷ tested FormatCode 4 1 2
    ∷ number 5 1 0
    ∷ tested FirstHeader 6 2 0
    ∷ tested SecondHeader 8 2 1
    ∷ tested FirstData 10 2 2
    ∷ tested LastData 12 2 (28 * n - 1)
    ∷ tested SegmentsPerTrack 24 2 n
    ∷ tested Tracks 26 1 28
    ∷ number 27 1 ((28 * n - 1) / 600)
    ∷ tested TrackMaximum 28 1 149
    ∷ tested SectorMaximum 29 1 128
    ∷ []

-- the fields that a header tells: the format date, the write date, the segments per track, the label and its date
abbrev pub header_fields : Header → List Field
header_fields h =
    number 14 4 h.format_date
    ∷ number 18 4 h.write_date
    ∷ number 24 2 h.segments_per_track
    ∷ record { offset = 30; width = 44; value = Text h.label; test = None }
    ∷ number 74 4 h.label_date
    ∷ []

-- ---- what data spell and show

abbrev pub HoldsValue : List (List ℕ) → (offset width : ℕ) → Value → Type 0
HoldsValue area offset width (Number value) = number_in area offset width ≡ value
HoldsValue area offset width (Text bytes) =
    slice_range (sector_at area (offset / 1024)) (offset % 1024) (offset % 1024 + width) ≡ bytes

-- the data have the field's value in its place
abbrev pub Holds : List (List ℕ) → Field → Type 0
Holds area field = HoldsValue area field.offset field.width field.value

-- the data show this header and the words of this map
pub record Shows (area : List (List ℕ)) (h : Header) (words : List ℕ) : Type 0 where
  pub header : All (Holds area) (header_fields h)
  pub map : words ≡ map (word_in area) (range_with_len 0 (28 * h.segments_per_track))

-- the data spell them: all fields hold their values, and those of the 29,696 bytes are 0 that lie in no field and not
-- in the map
pub record SpellsHeader (h : Header) (words : List ℕ) (area : List (List ℕ)) : Type 0 where
  pub profile : All (Holds area) (profile_fields h.segments_per_track)
  pub shows : Shows area h words
  pub rest : (k : ℕ) → k < 29696 →
      All (λ field. ¬ ((field.offset ≤ k) × (k < field.offset + field.width)))
      (profile_fields h.segments_per_track ++ header_fields h) →
      ¬ ((2048 ≤ k) × (k < 2048 + 4 * (28 * h.segments_per_track))) → slice_index (sector_at area (k / 1024)) (k % 1024) ≡ 0

-- ---- what is refused

-- the data begin with a header's signature
abbrev pub has_signature : List (List ℕ) → Bool
has_signature area = number_in area 0 4 == 0xAA55_AA55

-- a test that fails, and the value that stands there, or the number of a segment or of a slot
pub record HeaderFault : Type 0 where
  pub field : ForeignField
  pub value : ℕ

-- a number that stands in a field with a test, in place of its value
abbrev pub value_fault : List (List ℕ) → (offset width : ℕ) → Value → Option ForeignField → Option HeaderFault
value_fault area offset width (Number value) test =
    if number_in area offset width == value then None
    else option_map (λ name. record { field = name; value = number_in area offset width }) test
value_fault area offset width (Text bytes) test = None

-- the first field of a list that is at fault
abbrev pub first_fault : List (List ℕ) → List Field → Option HeaderFault
first_fault area [] = None
first_fault area (field ∷ fields) =
    option_or (value_fault area field.offset field.width field.value field.test) (first_fault area fields)

-- The first test that fails, for a drive that reports this many segments per track; behind the fields, the header
-- copies and the volume table have no bad sector: the words of segments 0 to 2 are 0.
abbrev pub header_fault : List (List ℕ) → ℕ → Option HeaderFault
header_fault area n = option_or (first_fault area (profile_fields n)) (
    if not (word_in area 0 == 0) then Some (record { field = Map; value = 0 })
    else if not (word_in area 1 == 0) then Some (record { field = Map; value = 1 })
    else if not (word_in area 2 == 0) then Some (record { field = Map; value = 2 }) else None)
