-- The tests of a header's fields, as a reader makes them, and how many words its map has.
use Rattle.std.proofs.Common.{◌≡◌, ℕ, ◌-◌, ◌==◌, true, List, Option, None, refl, eq-eqb, [], ◌∷◌, ap, ◌∙◌, Some, Bool, false, arith, ◌<◌}
use Rattle.std.proofs.Common.{get_or, length, sym, ◌*◌}
use Rattle.std.specs.Option.{option_or}
use Rattle.std.specs.List.{All}
use Rattle.std.proofs.lemmas.List.Elements.{All-head, All-tail, All-nil, All-cons}
use Rattle.std.proofs.lemmas.Bool.{eqb-true}
use Rattle.std.proofs.lemmas.List.FromFn.{get_or-map-range_with_len, length-map-range_with_len}
use Rattle.cartridge_spec.specs.Header.{Value, Number, Text, number_in, HoldsValue, value_fault, Field, HeaderFault, Holds, first_fault}
use Rattle.cartridge_spec.specs.Header.{tested, header_fault, number, profile_fields, word_in, Header}
use Rattle.cartridge_laws.specs.HeaderTerms.{field_fault, fault_as, map_fault, words_in}
use Rattle.cartridge_spec.specs.HeaderCopies.{IsFormatted, last_segment}
use Rattle.cartridge_spec.specs.Volumes.{Plain, Stands}
use Rattle.qic_base.specs.Cartridge.{Cartridge}
use Rattle.qic_base.specs.declared.foreign.ForeignField.{ForeignField}
use Rattle.qic_base.specs.declared.foreign.ForeignField.TheVariants.{SegmentsPerTrack}

-- ---- a list of fields

pub field_fault-holds : (area : List (List ℕ)) (offset width : ℕ) (value : Value) (test : Option ForeignField) →
    HoldsValue area offset width value → value_fault area offset width value test ≡ None
field_fault-holds area offset width (Number value) test holds =
    let equal : (number_in area offset width == value) ≡ true = eq-eqb _ _ holds in
    rw equal refl
field_fault-holds area offset width (Text bytes) test holds = refl

-- data that hold all values are at no fault
pub first_fault-holds : (fs : List Field) (area : List (List ℕ)) → All (Holds area) fs → first_fault area fs ≡ None
first_fault-holds [] area holds = refl
first_fault-holds (f ∷ fs) area holds =
    let none : field_fault area f ≡ None = field_fault-holds area f.offset f.width f.value f.test (All-head (Holds area) f fs holds) in
    ap (λ (o : Option HeaderFault). option_or o (first_fault area fs)) none ∙ first_fault-holds fs area (All-tail (Holds area) f fs holds)

or-none-left : (a b : Option HeaderFault) → option_or a b ≡ None → a ≡ None
or-none-left None b h = refl
or-none-left (Some x) b h = h

or-none-right : (a b : Option HeaderFault) → option_or a b ≡ None → b ≡ None
or-none-right None b h = h
or-none-right (Some x) b h = absurd (cc)

-- where there is no first fault there is none
first_fault-none : (fs : List Field) (area : List (List ℕ)) → first_fault area fs ≡ None → All (λ (f : Field). field_fault area f ≡ None) fs
first_fault-none [] area none = All-nil (λ (f : Field). field_fault area f ≡ None)
first_fault-none (f ∷ fs) area none =
    All-cons (λ (g : Field). field_fault area g ≡ None) f fs (or-none-left _ _ none) (first_fault-none fs area (or-none-right _ _ none))

tested-sound : (area : List (List ℕ)) (name : ForeignField) (offset width value : ℕ) →
    field_fault area (tested name offset width value) ≡ None → number_in area offset width ≡ value
tested-sound area name offset width value none = by_test (number_in area offset width == value) refl
  where
    by_test : (b : Bool) → (number_in area offset width == value) ≡ b → number_in area offset width ≡ value
    by_test true equal = eqb-true _ _ equal
    by_test false unequal =
        let some : field_fault area (tested name offset width value) ≡ Some (fault_as name (number_in area offset width)) =
        rw unequal refl in
        absurd (cc)

-- data of which no test fails have the drive's segments per track
pub fault-segments : (area : List (List ℕ)) (n : ℕ) → header_fault area n ≡ None → number_in area 24 2 ≡ n
fault-segments area n none =
    let fields : first_fault area (profile_fields n) ≡ None = or-none-left (first_fault area (profile_fields n)) (map_fault area) none in
    tested-sound area SegmentsPerTrack 24 2 n (first_fault-none (profile_fields n) area fields 7 any (omega arith))
  where
    any : Field
    any = number 0 0 0

-- ---- the map

pub map_fault-none : (area : List (List ℕ)) → ((s : ℕ) → s < 3 → word_in area s ≡ 0) → map_fault area ≡ None
map_fault-none area good =
    let zero_word : word_in area 0 ≡ 0 = good 0 (omega arith) in
    let one_word : word_in area 1 ≡ 0 = good 1 (omega arith) in
    let two_word : word_in area 2 ≡ 0 = good 2 (omega arith) in
    rw (eq-eqb _ 0 zero_word, eq-eqb _ 0 one_word, eq-eqb _ 0 two_word) refl

-- the words of a map that was read
pub word_in-read : (area : List (List ℕ)) (words : List ℕ) (segments s : ℕ) → words ≡ words_in area segments → s < segments →
    get_or words s 0 ≡ word_in area s
word_in-read area words segments s is h =
    ap (λ (xs : List ℕ). get_or xs s 0) is ∙ get_or-map-range_with_len (word_in area) 0 segments s s 0 h (omega arith)

pub length-words_in : (area : List (List ℕ)) (words : List ℕ) (segments : ℕ) → words ≡ words_in area segments → length words ≡ segments
length-words_in area words segments is = ap length is ∙ length-map-range_with_len (word_in area) 0 segments

-- so a cartridge with a sound header has a word for each segment
pub mounted_last : (c : Cartridge) (area : List (List ℕ)) (header : Header) (words : List ℕ) → IsFormatted c area header words →
    length words - 1 ≡ last_segment c
mounted_last c area header words formatted =
    let n : ℕ = c.info.segments_per_track in
    let there : number_in area 24 2 ≡ header.segments_per_track = formatted.shown.header 2 (number 24 2 0) (omega arith) in
    let told : header.segments_per_track ≡ n = sym there ∙ fault-segments area n formatted.sound in
    ap (λ (k : ℕ). k - 1) (length-words_in area words (28 * header.segments_per_track) formatted.shown.map)
    ∙ ap (λ (k : ℕ). 28 * k - 1) told

pub plain_last : (c : Cartridge) (plain : Plain) → Stands c plain → length plain.words - 1 ≡ last_segment c
plain_last c plain stood =
    mounted_last c plain.header_area plain.header plain.words
    (record { has_header = stood.header; sound = stood.sound_header; shown = stood.whole.shown })
