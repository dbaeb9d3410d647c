-- A data area that is built: zero bytes, the words of a map written over them, and the fields of a header.
use Rattle.std.proofs.Common.{◌≡◌, ℕ, ◌+◌, ◌<◌, ◌≤◌, List, ◌++◌, take, drop, length, ◌∙◌, arith, All, zero, suc, ◌/◌, ◌%◌, replicate, refl}
use Rattle.std.proofs.Common.{[], ◌*◌, get_or, set, ◌^◌, ap, length-set, get_or-set_same, below_more, add-one, true, ◌∷◌}
use Rattle.std.proofs.lemmas.List.Elements.{All-take, All-drop, All-append, All-nil, All-cons, All-replicate, All-get_or, All-set, All-head}
use Rattle.std.proofs.lemmas.List.Elements.{All-tail}
use Rattle.std.proofs.lemmas.List.{length-replicate, get_or-replicate}
use Rattle.std.proofs.lemmas.Option.{unwrap_or-slice_get}
use Rattle.cartridge_laws.proofs.FreshFields.{are_first, first-head, first-tail}
use Rattle.cartridge_laws.proofs.HeaderSpellingLaws.{all_clear}
use Rattle.cartridge_laws.proofs.MapAreaLaws.{byte_in-other_word, word_in-others, IsInMap-more}
use Rattle.cartridge_laws.specs.HeaderWriting.{value_bytes, with_fields}
use Rattle.cartridge_laws.specs.HeaderTerms.{byte_in, IsInMap}
use Rattle.cartridge_spec.specs.Header.{word_in, Value, Number, Text, Field}
use Rattle.cartridge_spec.specs.Shape.{IsArea}
use Rattle.qic_base.proofs.FieldLaws.{length-overwritten, length-little_endian_bytes, number_at-overwritten}
use Rattle.qic_base.specs.Cartridge.{IsSector, zero_sector}
use Rattle.qic_base.specs.Field.{overwritten, little_endian_bytes, number_at}
use Rattle.qic_base.proofs.Arrays.{zero_sector-is_sector}

-- ---- sectors that are written over

overwritten_is_sector : (sector part : List ℕ) (at : ℕ) → IsSector sector → at + length part ≤ 1024 → All (λ b. b < 256) part →
    IsSector (overwritten sector at part)
unfolding overwritten
overwritten_is_sector sector part at whole within small =
    let long : length sector ≡ 1024 = whole.size in
    record {
      size = length-overwritten sector part at (omega arith) ∙ long;
      each = All-append (λ b. b < 256) (take at sector ++ part) (drop (at + length part) sector)
          (All-append (λ b. b < 256) (take at sector) part (All-take (λ b. b < 256) at sector whole.each) small)
          (All-drop (λ b. b < 256) (at + length part) sector whole.each);
    }

pub number_bytes : (width value : ℕ) → All (λ b. b < 256) (little_endian_bytes width value)
unfolding little_endian_bytes
number_bytes zero value = All-nil (λ b. b < 256)
number_bytes (suc width) value =
    All-cons (λ b. b < 256) (value % 256) (little_endian_bytes width (value / 256)) (omega arith) (number_bytes width (value / 256))

-- ---- an area of zero bytes

unfoldable pub zero_area : List (List ℕ)
zero_area = replicate 29 zero_sector

pub zero_bytes : zero_sector ≡ replicate 1024 0
unfolding zero_sector
zero_bytes = refl

pub zero_area_is : IsArea zero_area
unfolding zero_area
zero_area_is = record { size = length-replicate 29 zero_sector; sectors = All-replicate IsSector 29 zero_sector zero_sector-is_sector }

pub zero_area_clear : (k : ℕ) → byte_in zero_area k ≡ 0
unfolding zero_area
zero_area_clear = all_clear zero_area (λ i within.
    let size : length zero_area ≡ 29 = length-replicate 29 zero_sector in
    get_or-replicate 29 i zero_sector [] (omega arith) ∙ zero_bytes)

-- ---- the words of a map

-- the area with the word of one segment written
with_word : (segment word : ℕ) → List (List ℕ) → List (List ℕ)
with_word segment word area =
    set area (2 + segment / 256) (overwritten (get_or area (2 + segment / 256) []) (4 * (segment % 256)) (little_endian_bytes 4 word))

-- with those of the first segments
pub with_words : (ℕ → ℕ) → (count : ℕ) → List (List ℕ) → List (List ℕ)
with_words word zero area = area
with_words word (suc count) area = with_word count (word count) (with_words word count area)

-- the words are written into an area, and all else stands
pub record IsMapped (word : ℕ → ℕ) (count : ℕ) (clean area : List (List ℕ)) : Type 0 where
  pub whole : IsArea area
  pub words : (s : ℕ) → s < count → word_in area s ≡ word s
  pub others : (k : ℕ) → ¬ (IsInMap count k) → byte_in area k ≡ byte_in clean k

sector_of : (area : List (List ℕ)) (s : ℕ) → IsArea area → s < 29 → IsSector (get_or area s [])
sector_of area s whole within =
    let size : length area ≡ 29 = whole.size in
    All-get_or IsSector area s [] (omega arith) whole.sectors

-- one word more
pub record IsWritten (segment word : ℕ) (old new : List (List ℕ)) : Type 0 where
  pub whole : IsArea new
  pub spelled : word_in new segment ≡ word
  pub others : (k : ℕ) → (IsInMap (segment + 1) k → IsInMap segment k) → byte_in new k ≡ byte_in old k

word_written : (segment word : ℕ) (area : List (List ℕ)) → IsArea area → segment < 6912 → word < 2 ^ 32 →
    IsWritten segment word area (with_word segment word area)
unfolding with_word
word_written segment word area whole on small =
    let size : length area ≡ 29 = whole.size in
    let there : 2 + segment / 256 < length area = omega arith in
    let old : IsSector (get_or area (2 + segment / 256) []) = sector_of area (2 + segment / 256) whole (omega arith) in
    let long : length (get_or area (2 + segment / 256) []) ≡ 1024 = old.size in
    let four : length (little_endian_bytes 4 word) ≡ 4 = length-little_endian_bytes 4 word in
    let sector : List ℕ = get_or area (2 + segment / 256) [] in
    let bytes : List ℕ = overwritten (get_or area (2 + segment / 256) []) (4 * (segment % 256)) (little_endian_bytes 4 word) in
    let is_sector : IsSector (overwritten (get_or area (2 + segment / 256) []) (4 * (segment % 256)) (little_endian_bytes 4 word)) =
    overwritten_is_sector (get_or area (2 + segment / 256) []) (little_endian_bytes 4 word) (4 * (segment % 256)) old (omega arith)
    (number_bytes 4 word) in
    let place : (2048 + 4 * segment) / 1024 ≡ 2 + segment / 256 = omega arith in
    let rest : (2048 + 4 * segment) % 1024 ≡ 4 * (segment % 256) = omega arith in
    record {
      whole = record {
        size = length-set area (2 + segment / 256) bytes ∙ size;
        sectors = All-set IsSector area (2 + segment / 256) bytes is_sector whole.sectors;
      };
      spelled = rw (place, rest)
          (ap (λ (xs : List ℕ). number_at xs (4 * (segment % 256)) 4)
          (unwrap_or-slice_get (set area (2 + segment / 256) bytes) (2 + segment / 256) []
          ∙ get_or-set_same area (2 + segment / 256) bytes [] there)
          ∙ number_at-overwritten sector (4 * (segment % 256)) 4 word (omega arith) small);
      others = λ k outside. byte_in-other_word area bytes sector segment word k there refl (omega arith) refl outside;
    }

mapped_none : (word : ℕ → ℕ) (area : List (List ℕ)) → IsArea area → IsMapped word 0 area area
mapped_none word area whole = record { whole = whole; words = λ s below. absurd (omega arith); others = λ k outside. refl }

mapped_more : (word : ℕ → ℕ) (count : ℕ) (clean old new : List (List ℕ)) → IsMapped word count clean old →
    IsWritten count (word count) old new → IsMapped word (count + 1) clean new
mapped_more word count clean old new mapped written = record {
  whole = written.whole;
  words = below_more (λ (s : ℕ). word_in new s ≡ word s) count
      (λ s below. word_in-others old new count s written.others below ∙ mapped.words s below)
      written.spelled;
  others = λ k outside.
      written.others k (λ within. absurd (outside within))
      ∙ mapped.others k (λ within. outside (IsInMap-more count k within));
}

pub words_written : (word : ℕ → ℕ) (count : ℕ) (area : List (List ℕ)) → IsArea area → count ≤ 6912 → ((s : ℕ) → word s < 2 ^ 32) →
    IsMapped word count area (with_words word count area)
unfolding with_words
words_written word zero area whole most small = mapped_none word area whole
words_written word (suc count) area whole most small =
    let before : IsMapped word count area (with_words word count area) = words_written word count area whole (omega arith) small in
    rw (← add-one count)
    (mapped_more word count area (with_words word count area) (with_word count (word count) (with_words word count area)) before
    (word_written count (word count) (with_words word count area) before.whole (omega arith) (small count)))

-- ---- the fields of a header

-- a value that fills its field with bytes
abbrev pub Fills : ℕ → Value → Type 0
Fills width (Number value) = Unit {0}
Fills width (Text bytes) = (length bytes ≡ width) × All (λ b. b < 256) bytes

abbrev pub IsFilled : Field → Type 0
IsFilled f = Fills f.width f.value

value_written : (sector : List ℕ) (offset width : ℕ) (value : Value) → IsSector sector → offset + width ≤ 1024 → Fills width value →
    IsSector (overwritten sector offset (value_bytes width value))
value_written sector offset width (Number value) whole within fills =
    let size : length (little_endian_bytes width value) ≡ width = length-little_endian_bytes width value in
    overwritten_is_sector sector (little_endian_bytes width value) offset whole (omega arith) (number_bytes width value)
value_written sector offset width (Text bytes) whole within fills =
    let size : length bytes ≡ width = fills.0 in
    overwritten_is_sector sector bytes offset whole (omega arith) fills.1

pub fields_written : (fs : List Field) (sector : List ℕ) → are_first fs ≡ true → All IsFilled fs → IsSector sector →
    IsSector (with_fields fs sector)
fields_written [] sector within fills whole = whole
fields_written (f ∷ fs) sector within fills whole =
    fields_written fs (overwritten sector f.offset (value_bytes f.width f.value)) (first-tail f fs within) (All-tail IsFilled f fs fills)
    (value_written sector f.offset f.width f.value whole (first-head f fs within) (All-head IsFilled f fs fills))
