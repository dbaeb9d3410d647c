-- Fresh header data for a cartridge, and the words that mark its defects.
use Rattle.std.proofs.Common.{ℕ, Bool, true, false, zero, suc, ◌+◌, ◌*◌, ◌^◌, ◌-◌, ◌<◌, arith, ◌≤◌, ◌≡◌, ◌⊎◌, inl, inr, ◌/◌, ◌%◌, ap, ◌∙◌}
use Rattle.std.proofs.Common.{refl, List, map, length, get_or, sym, [], All, set, length-set}
use Rattle.std.proofs.Math.Nat.{pow-suc}
use Rattle.std.proofs.lemmas.Bool.{cases_lt}
use Rattle.std.proofs.lemmas.Nat.Bits.{bit_at_cat_low, bit_at_cat_high, bit_at_lowest}
use Rattle.std.specs.List.{range_with_len}
use Rattle.std.proofs.lemmas.List.FromFn.{length-map-range_with_len, get_or-map-range_with_len, fill_by_all}
use Rattle.std.proofs.lemmas.List.Elements.{All-get_or, All-from_recursion, All-set}
use Rattle.cartridge_laws.proofs.FreshBuilding.{zero_area, with_words, zero_area_is, IsMapped, words_written, IsFilled, zero_area_clear}
use Rattle.cartridge_laws.proofs.FreshBuilding.{fields_written}
use Rattle.cartridge_laws.proofs.HeaderSpellingLaws.{all_fields, IsEncoded, encoded_spells}
use Rattle.cartridge_laws.specs.FreshLaws.{FreshAreaExists}
use Rattle.cartridge_laws.specs.HeaderWriting.{with_fields, FieldFits, told_fields}
use Rattle.cartridge_spec.specs.Formatting.{IsDefect, MarksDefects, IsLabel, fresh_header}
use Rattle.cartridge_laws.specs.HeaderTerms.{IsFreshArea, words_in}
use Rattle.cartridge_spec.specs.Header.{Header, word_in}
use Rattle.cartridge_spec.specs.Shape.{IsArea}
use Rattle.qic_base.specs.Cartridge.{Cartridge, view_at, IsSector}
use Rattle.qic_base.specs.CartridgeTerms.{IsCartridge}
use Rattle.qic_base.specs.declared.tape.SectorView.{SectorView}
use Rattle.qic_base.specs.declared.tape.SectorView.TheVariants.{Blank, Defect, Lost, Holds}

-- ---- a number by its bits

bit : Bool → ℕ
bit true = 1
bit false = 0

-- the number whose low bits these are
from_bits : (ℕ → Bool) → (width : ℕ) → ℕ
from_bits f zero = 0
from_bits f (suc width) = bit (f width) * 2 ^ width + from_bits f width

bit-below : (b : Bool) → bit b < 2
unfolding bit
bit-below true = omega arith
bit-below false = omega arith

times_bit : (b : Bool) (p : ℕ) → bit b * p ≤ p
unfolding bit
times_bit true p = omega arith
times_bit false p = omega arith

from_bits-below : (f : ℕ → Bool) (width : ℕ) → from_bits f width < 2 ^ width
unfolding from_bits
from_bits-below f zero = omega arith
from_bits-below f (suc width) =
    let rest : from_bits f width < 2 ^ width = from_bits-below f width in
    let first : bit (f width) * 2 ^ width ≤ 2 ^ width = times_bit (f width) (2 ^ width) in
    omega (arith, pow-suc 2 width)

from_bits-bit : (f : ℕ → Bool) (width i : ℕ) → i < width → from_bits f width / 2 ^ i % 2 ≡ bit (f i)
unfolding from_bits
from_bits-bit f zero i below = absurd (omega arith)
from_bits-bit f (suc width) i below = by_place (λ lower. from_bits-bit f width i lower) (cases_lt i width)
  where
    highest : (b : ℕ) → b < 2 → b / 2 ^ 0 % 2 ≡ b
    highest b small = bit_at_lowest b ∙ omega arith

    at_width : (j : ℕ) → j ≡ width → (bit (f width) * 2 ^ width + from_bits f width) / 2 ^ j % 2 ≡ bit (f j)
    at_width j same =
        let none : width - width ≡ 0 = omega arith in
        rw same
        (bit_at_cat_high (bit (f width)) width (from_bits f width) width (from_bits-below f width) (omega arith)
        ∙ ap (λ (n : ℕ). bit (f width) / 2 ^ n % 2) none
        ∙ highest (bit (f width)) (bit-below (f width)))

    by_place : (i < width → from_bits f width / 2 ^ i % 2 ≡ bit (f i)) → (i < width) ⊎ (width ≤ i) →
        (bit (f width) * 2 ^ width + from_bits f width) / 2 ^ i % 2 ≡ bit (f i)
    by_place rest (inl lower) = bit_at_cat_low (bit (f width)) width (from_bits f width) i lower ∙ rest lower
    by_place rest (inr upper) = at_width i (omega arith)

-- ---- the words that mark the defects

is_defect : SectorView → Bool
is_defect Blank = false
is_defect Defect = true
is_defect Lost = false
is_defect (Holds bytes) = false

defect_from_bit : (view : SectorView) → bit (is_defect view) ≡ 1 → IsDefect view
unfolding bit is_defect
defect_from_bit Blank h = absurd (omega arith)
defect_from_bit Defect h = tt
defect_from_bit Lost h = absurd (omega arith)
defect_from_bit (Holds bytes) h = absurd (omega arith)

bit_from_defect : (view : SectorView) → IsDefect view → bit (is_defect view) ≡ 1
unfolding bit is_defect
bit_from_defect Blank h = absurd h
bit_from_defect Defect h = refl
bit_from_defect Lost h = absurd h
bit_from_defect (Holds bytes) h = absurd h

-- the word of a segment
defect_word : Cartridge → (segment : ℕ) → ℕ
defect_word c segment = from_bits (λ index. is_defect (view_at c segment index)) 32

defect_word-below : (c : Cartridge) (segment : ℕ) → defect_word c segment < 2 ^ 32
unfolding defect_word
defect_word-below c segment = from_bits-below (λ index. is_defect (view_at c segment index)) 32

defect_word-bit : (c : Cartridge) (segment index : ℕ) → index < 32 → defect_word c segment / 2 ^ index % 2 ≡ bit
    (is_defect (view_at c segment index))
unfolding defect_word
defect_word-bit c segment index within = from_bits-bit (λ i. is_defect (view_at c segment i)) 32 index within

abbrev segment_count : Cartridge → ℕ
segment_count c = 28 * c.info.segments_per_track

defect_words : Cartridge → List ℕ
defect_words c = map (defect_word c) (range_with_len 0 (segment_count c))

length-defect_words : (c : Cartridge) → length (defect_words c) ≡ 28 * c.info.segments_per_track
unfolding defect_words
length-defect_words c = length-map-range_with_len (defect_word c) 0 (28 * c.info.segments_per_track)

defect_words-at : (c : Cartridge) (s : ℕ) → s < 28 * c.info.segments_per_track → get_or (defect_words c) s 0 ≡ defect_word c s
unfolding defect_words
defect_words-at c s on = get_or-map-range_with_len (defect_word c) 0 (28 * c.info.segments_per_track) s s 0 on (omega arith)

mark_of : (c : Cartridge) (s index : ℕ) → s < 28 * c.info.segments_per_track → index < 32 →
    get_or (defect_words c) s 0 / 2 ^ index % 2 ≡ bit (is_defect (view_at c s index))
mark_of c s index on within = ap (λ (w : ℕ). w / 2 ^ index % 2) (defect_words-at c s on) ∙ defect_word-bit c s index within

marks_defects : (c : Cartridge) → MarksDefects c (defect_words c)
marks_defects c = record {
  size = length-defect_words c;
  each = λ s index on within. (
    λ lost. defect_from_bit (view_at c s index) (sym (mark_of c s index on within) ∙ lost),
    λ defect. mark_of c s index on within ∙ bit_from_defect (view_at c s index) defect,
  );
}

-- ---- the area

mapped : Cartridge → List (List ℕ)
mapped c = with_words (defect_word c) (segment_count c) zero_area

is_mapped : (c : Cartridge) → IsCartridge c → IsMapped (defect_word c) (28 * c.info.segments_per_track) zero_area (mapped c)
unfolding mapped
is_mapped c whole =
    let most = whole.long.longest in
    words_written (defect_word c) (28 * c.info.segments_per_track) zero_area zero_area_is (omega arith) (defect_word-below c)

first_sector : (c : Cartridge) (h : Header) → List ℕ
first_sector c h = with_fields (all_fields h) (get_or (mapped c) 0 [])

first_of_mapped : (c : Cartridge) → IsCartridge c → IsSector (get_or (mapped c) 0 [])
first_of_mapped c whole =
    let area = (is_mapped c whole).whole in
    let size : length (mapped c) ≡ 29 = area.size in
    All-get_or IsSector (mapped c) 0 [] (omega arith) area.sectors

-- the fields of a header with such a label
filled : (h : Header) → IsLabel h.label → All IsFilled (all_fields h)
filled h label =
    All-from_recursion IsFilled (all_fields h)
    (tt, (tt, (tt, (tt, (tt, (tt, (tt, (tt, (tt, (tt, (tt, (tt, (tt, (tt, ((label.size, label.bytes), (tt, tt))))))))))))))))

fitting : (n : ℕ) (label : List ℕ) (date : ℕ) → IsLabel label → date < 2 ^ 32 → All FieldFits (told_fields (fresh_header n label date))
fitting n label date is_label small =
    All-from_recursion FieldFits (told_fields (fresh_header n label date)) (omega arith, (omega arith, (is_label.size, (omega arith, tt))))

words_shown : (c : Cartridge) → IsCartridge c → words_in (mapped c) (length (defect_words c)) ≡ defect_words c
words_shown c whole =
    sym (fill_by_all (word_in (mapped c)) (defect_words c) (length (defect_words c)) 0 refl (λ s below.
    let size : length (defect_words c) ≡ 28 * c.info.segments_per_track = length-defect_words c in
    let on : s < 28 * c.info.segments_per_track = omega arith in
    defect_words-at c s on ∙ sym ((is_mapped c whole).words s on)))

is_encoded : (c : Cartridge) (label : List ℕ) (date : ℕ) → IsCartridge c → IsLabel label → date < 2 ^ 32 →
    IsEncoded (fresh_header c.info.segments_per_track label date) (defect_words c)
    (first_sector c (fresh_header c.info.segments_per_track label date)) zero_area (mapped c)
unfolding first_sector
is_encoded c label date whole is_label small = record {
  tracks = whole.long;
  told = fitting c.info.segments_per_track label date is_label small;
  count = length-defect_words c;
  clear = zero_area_clear;
  words_written = words_shown c whole;
  others = λ k outside. (is_mapped c whole).others k (λ within. outside (rw (length-defect_words c) within));
  sectors = (is_mapped c whole).whole.size;
  long = (first_of_mapped c whole).size;
  fields = refl;
}

sector_built : (c : Cartridge) (h : Header) → IsCartridge c → IsLabel h.label → IsSector (first_sector c h)
unfolding first_sector
sector_built c h whole label = fields_written (all_fields h) (get_or (mapped c) 0 []) refl (filled h label) (first_of_mapped c whole)

fresh_area : Cartridge → (h : Header) → List (List ℕ)
fresh_area c h = set (mapped c) 0 (first_sector c h)

area_built : (c : Cartridge) (h : Header) → IsCartridge c → IsLabel h.label → IsArea (fresh_area c h)
unfolding fresh_area
area_built c h whole label =
    let before = (is_mapped c whole).whole in
    record {
      size = length-set (mapped c) 0 (first_sector c h) ∙ before.size;
      sectors = All-set IsSector (mapped c) 0 (first_sector c h) (sector_built c h whole label) before.sectors;
    }

is_fresh : (c : Cartridge) (label : List ℕ) (date : ℕ) → IsCartridge c → IsLabel label → date < 2 ^ 32 →
    IsFreshArea c.info.segments_per_track label date (defect_words c) (fresh_area c (fresh_header c.info.segments_per_track label date))
unfolding fresh_area
is_fresh c label date whole is_label small = record {
  size = area_built c (fresh_header c.info.segments_per_track label date) whole is_label;
  spells = encoded_spells (fresh_header c.info.segments_per_track label date) (defect_words c)
      (first_sector c (fresh_header c.info.segments_per_track label date)) zero_area (mapped c)
      (is_encoded c label date whole is_label small);
}

pub fresh_area_exists : FreshAreaExists
fresh_area_exists c label date whole is_label small =
    let fresh = is_fresh c label date whole is_label small in
    record {
      words = defect_words c;
      area = fresh_area c (fresh_header c.info.segments_per_track label date);
      is_fresh = record { size = fresh.size; spells = fresh.spells; marks = marks_defects c };
    }
