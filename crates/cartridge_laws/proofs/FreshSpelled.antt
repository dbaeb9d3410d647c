-- Areas that spell the same header and the same map are equal, byte by byte.
use Rattle.std.proofs.Common.{ℕ, ◌<◌, List, ◌≡◌, ◌-◌, [], ◌∷◌, length, refl, arith, ◌+◌, ◌≤◌, sym, ◌∙◌, ◌%◌, ◌/◌, get_or, ap, ◌⊎◌, inl, inr}
use Rattle.std.proofs.Common.{true, ◌*◌, ◌++◌}
use Rattle.std.specs.List.{All, slice_range}
use Rattle.std.proofs.lemmas.List.Elements.{All-head, All-tail, All-get_or, All-take, All-drop, All-nil, All-cons, All-append}
use Rattle.std.proofs.lemmas.Option.{unwrap_or-slice_get}
use Rattle.std.proofs.lemmas.List.Edits.{length-between, get_or-between}
use Rattle.std.proofs.lemmas.Bool.{cases_lt}
use Rattle.std.proofs.lemmas.List.FromFn.{get_or-map-range_with_len}
use Rattle.std.proofs.lemmas.List.{same_lists, get_or_default}
use Rattle.cartridge_laws.proofs.FreshFields.{are_first, first-head, first-tail}
use Rattle.cartridge_laws.specs.FreshLaws.{SpelledIsOne}
use Rattle.cartridge_spec.specs.Header.{Value, Number, Text, HoldsValue, Field, Holds, word_in, Header, SpellsHeader, profile_fields}
use Rattle.cartridge_spec.specs.Header.{header_fields}
use Rattle.cartridge_laws.specs.HeaderTerms.{byte_in, IsInField, IsInMap, words_in}
use Rattle.cartridge_spec.specs.Shape.{IsArea, sector_at}
use Rattle.qic_base.specs.Cartridge.{IsSector}
use Rattle.qic_base.specs.Field.{little_endian, number_at}
use Rattle.qic_base.specs.Disk.{AreBytes}

-- ---- a number determines its bytes

same_bytes : (xs ys : List ℕ) → AreBytes xs → AreBytes ys → length xs ≡ length ys → little_endian xs ≡ little_endian ys → xs ≡ ys
same_bytes [] [] small less long same = refl
same_bytes [] (y ∷ ys) small less long same = absurd (omega arith)
same_bytes (x ∷ xs) [] small less long same = absurd (omega arith)
same_bytes (x ∷ xs) (y ∷ ys) small less long same =
    let first : x < 256 = All-head (λ b. b < 256) x xs small in
    let other : y < 256 = All-head (λ b. b < 256) y ys less in
    let head : x ≡ y = omega arith in
    let rest : little_endian xs ≡ little_endian ys = omega arith in
    let tail : xs ≡ ys = same_bytes xs ys (All-tail (λ b. b < 256) x xs small) (All-tail (λ b. b < 256) y ys less) (omega arith) rest in
    cc

-- ---- the sectors of an area

pub sector_is : (area : List (List ℕ)) (s : ℕ) → IsArea area → s < 29 → IsSector (sector_at area s)
sector_is area s whole within =
    let size : length area ≡ 29 = whole.size in
    rw (unwrap_or-slice_get area s []) (All-get_or IsSector area s [] (omega arith) whole.sectors)

between_bytes : (xs : List ℕ) (i j : ℕ) → AreBytes xs → AreBytes (slice_range xs i j)
between_bytes xs i j small = All-take (λ b. b < 256) (j - i) _ (All-drop (λ b. b < 256) i xs small)

-- a field has the same bytes in two sectors, if it has the same value there
same_part : (one other : List ℕ) (at width : ℕ) → IsSector one → IsSector other → at + width ≤ 1024 →
    number_at one at width ≡ number_at other at width → slice_range one at (at + width) ≡ slice_range other at (at + width)
unfolding number_at
same_part one other at width is_one is_other within same =
    let long : length one ≡ 1024 = is_one.size in
    let wide : length other ≡ 1024 = is_other.size in
    let first = length-between one at (at + width) (omega arith) in
    let next = length-between other at (at + width) (omega arith) in
    same_bytes (slice_range one at (at + width)) (slice_range other at (at + width))
    (between_bytes one at (at + width) is_one.each) (between_bytes other at (at + width) is_other.each) (first ∙ sym next) same

-- a field that lies in one sector
record IsPlaced (offset width : ℕ) : Type 0 where
  within : offset < 29696
  whole : offset % 1024 + width ≤ 1024

same_field : (one other : List (List ℕ)) (offset width : ℕ) (value : Value) → IsArea one → IsArea other → IsPlaced offset width →
    HoldsValue one offset width value → HoldsValue other offset width value →
    slice_range (sector_at one (offset / 1024)) (offset % 1024) (offset % 1024 + width)
    ≡ slice_range (sector_at other (offset / 1024)) (offset % 1024) (offset % 1024 + width)
same_field one other offset width (Number value) whole all placed holds held =
    let below : offset < 29696 = placed.within in
    same_part (sector_at one (offset / 1024)) (sector_at other (offset / 1024)) (offset % 1024) width
    (sector_is one (offset / 1024) whole (omega arith)) (sector_is other (offset / 1024) all (omega arith)) placed.whole
    (holds ∙ sym held)
same_field one other offset width (Text bytes) whole all placed holds held = holds ∙ sym held

-- so each byte of it is the same
same_byte : (one other : List (List ℕ)) (offset width k : ℕ) (value : Value) → IsArea one → IsArea other → IsPlaced offset width →
    HoldsValue one offset width value → HoldsValue other offset width value → offset ≤ k → k < offset + width →
    byte_in one k ≡ byte_in other k
same_byte one other offset width k value whole all placed holds held from below =
    let inside : offset % 1024 + width ≤ 1024 = placed.whole in
    let sector : k / 1024 ≡ offset / 1024 = omega arith in
    let place : k % 1024 ≡ offset % 1024 + (k - offset) = omega arith in
    let same = same_field one other offset width value whole all placed holds held in
    rw (sector, place)
    (sym (get_or-between (sector_at one (offset / 1024)) (offset % 1024) (offset % 1024 + width) (k - offset) 0 (omega arith))
    ∙ ap (λ (xs : List ℕ). get_or xs (k - offset) 0) same
    ∙ get_or-between (sector_at other (offset / 1024)) (offset % 1024) (offset % 1024 + width) (k - offset) 0 (omega arith))

-- ---- a list of fields

field_or_not : (k : ℕ) (f : Field) → IsInField k f ⊎ ¬ (IsInField k f)
field_or_not k f = by_ends (cases_lt k f.offset) (cases_lt k (f.offset + f.width))
  where
    by_ends : (k < f.offset) ⊎ (f.offset ≤ k) → (k < f.offset + f.width) ⊎ (f.offset + f.width ≤ k) → IsInField k f ⊎ ¬ (IsInField k f)
    by_ends (inl before) end = inr (λ (h : IsInField k f). let from = h.0 in omega arith)
    by_ends (inr from) (inl below) = inl (from, below)
    by_ends (inr from) (inr past) = inr (λ (h : IsInField k f). let below = h.1 in omega arith)

-- a byte is the same in both areas, or lies in none of the fields
same_or_outside : (fs : List Field) (one other : List (List ℕ)) (k : ℕ) → IsArea one → IsArea other → are_first fs ≡ true →
    All (Holds one) fs → All (Holds other) fs → (byte_in one k ≡ byte_in other k) ⊎ All (λ field. ¬ (IsInField k field)) fs
same_or_outside [] one other k whole all first holds held = inr (All-nil (λ (field : Field). ¬ (IsInField k field)))
same_or_outside (f ∷ fs) one other k whole all first holds held =
    by_rest (same_or_outside fs one other k whole all (first-tail f fs first) (All-tail (Holds one) f fs holds)
    (All-tail (Holds other) f fs held))
    (field_or_not k f)
  where
    placed : IsPlaced f.offset f.width
    placed =
        let early : f.offset + f.width ≤ 1024 = first-head f fs first in
        record { within = omega arith; whole = omega arith }

    by_rest : (byte_in one k ≡ byte_in other k) ⊎ All (λ field. ¬ (IsInField k field)) fs → IsInField k f ⊎ ¬ (IsInField k f) →
        (byte_in one k ≡ byte_in other k) ⊎ All (λ field. ¬ (IsInField k field)) (f ∷ fs)
    by_rest (inl same) here = inl same
    by_rest (inr outside) (inl here) = inl
        (same_byte one other f.offset f.width k f.value whole all placed
        (All-head (Holds one) f fs holds) (All-head (Holds other) f fs held) here.0 here.1)
    by_rest (inr outside) (inr not) = inr (All-cons (λ (field : Field). ¬ (IsInField k field)) f fs not outside)

-- ---- the map

map_or_not : (segments k : ℕ) → IsInMap segments k ⊎ ¬ (IsInMap segments k)
map_or_not segments k = by_ends (cases_lt k 2048) (cases_lt k (2048 + 4 * segments))
  where
    by_ends : (k < 2048) ⊎ (2048 ≤ k) → (k < 2048 + 4 * segments) ⊎ (2048 + 4 * segments ≤ k) → IsInMap segments k ⊎ ¬ (IsInMap segments k)
    by_ends (inl before) end = inr (λ (h : IsInMap segments k). let from = h.0 in omega arith)
    by_ends (inr from) (inl below) = inl (from, below)
    by_ends (inr from) (inr past) = inr (λ (h : IsInMap segments k). let below = h.1 in omega arith)

-- a word that is shown
pub word_of : (area : List (List ℕ)) (words : List ℕ) (n s : ℕ) → words ≡ words_in area n → s < n → word_in area s ≡ get_or words s 0
word_of area words n s is below =
    sym (ap (λ (xs : List ℕ). get_or xs s 0) is ∙ get_or-map-range_with_len (word_in area) 0 n s s 0 below (omega arith))

same_in_map : (one other : List (List ℕ)) (words : List ℕ) (n k : ℕ) → IsArea one → IsArea other → words ≡ words_in one n →
    words ≡ words_in other n → k < 29696 → IsInMap n k → byte_in one k ≡ byte_in other k
same_in_map one other words n k whole all is are within in_map =
    let from : 2048 ≤ k = in_map.0 in
    let below : k < 2048 + 4 * n = in_map.1 in
    let s : ℕ = (k - 2048) / 4 in
    let on : (k - 2048) / 4 < n = omega arith in
    same_byte one other (2048 + 4 * ((k - 2048) / 4)) 4 k (Number (get_or words ((k - 2048) / 4) 0)) whole all
    (record { within = omega arith; whole = omega arith })
    (word_of one words n ((k - 2048) / 4) is on) (word_of other words n ((k - 2048) / 4) are on) (omega arith) (omega arith)

-- ---- the whole

same_bytes_in : (h : Header) (words : List ℕ) (one other : List (List ℕ)) (k : ℕ) → IsArea one → IsArea other →
    SpellsHeader h words one → SpellsHeader h words other → k < 29696 → byte_in one k ≡ byte_in other k
same_bytes_in h words one other k whole all spells spelled within =
    by_fields
    (same_or_outside (profile_fields h.segments_per_track ++ header_fields h) one other k whole all refl
    (All-append (Holds one) (profile_fields h.segments_per_track) (header_fields h) spells.profile spells.shows.header)
    (All-append (Holds other) (profile_fields h.segments_per_track) (header_fields h) spelled.profile spelled.shows.header))
    (map_or_not (28 * h.segments_per_track) k)
  where
    by_fields : (byte_in one k ≡ byte_in other k) ⊎ All (λ field. ¬ (IsInField k field))
        (profile_fields h.segments_per_track ++ header_fields h) →
        IsInMap (28 * h.segments_per_track) k ⊎ ¬ (IsInMap (28 * h.segments_per_track) k) → byte_in one k ≡ byte_in other k
    by_fields (inl same) in_map = same
    by_fields (inr outside) (inl in_map) =
        same_in_map one other words (28 * h.segments_per_track) k whole all spells.shows.map spelled.shows.map within in_map
    by_fields (inr outside) (inr no_map) =
        spells.rest k within outside no_map ∙ sym (spelled.rest k within outside no_map)

-- areas with the same bytes are the same
same_areas : (one other : List (List ℕ)) → IsArea one → IsArea other →
    ((k : ℕ) → k < 29696 → byte_in one k ≡ byte_in other k) → one ≡ other
same_areas one other whole all same =
    same_lists one other (whole.size ∙ sym all.size) (λ i d within. same_sector i d within)
  where
    byte_at : (i j : ℕ) → i < 29 → j < 1024 → get_or (sector_at one i) j 0 ≡ get_or (sector_at other i) j 0
    byte_at i j on inside =
        let sector : (1024 * i + j) / 1024 ≡ i = omega arith in
        let place : (1024 * i + j) % 1024 ≡ j = omega arith in
        rw (sector, place) at (same (1024 * i + j) (omega arith))

    sectors : (i : ℕ) → i < 29 → sector_at one i ≡ sector_at other i
    sectors i on =
        let is_one = sector_is one i whole on in
        let is_other = sector_is other i all on in
        let long : length (sector_at one i) ≡ 1024 = is_one.size in
        let wide : length (sector_at other i) ≡ 1024 = is_other.size in
        same_lists (sector_at one i) (sector_at other i) (long ∙ sym wide)
        (λ j d inside.
        get_or_default (sector_at one i) j d 0 inside
        ∙ byte_at i j on (omega arith)
        ∙ get_or_default (sector_at other i) j 0 d (omega arith))

    same_sector : (i : ℕ) (d : List ℕ) → i < length one → get_or one i d ≡ get_or other i d
    same_sector i d within =
        let size : length one ≡ 29 = whole.size in
        let other_size : length other ≡ 29 = all.size in
        get_or_default one i d [] within
        ∙ sym (unwrap_or-slice_get one i [])
        ∙ sectors i (omega arith)
        ∙ unwrap_or-slice_get other i []
        ∙ get_or_default other i [] d (omega arith)

pub spelled_is_one : SpelledIsOne
spelled_is_one h words one other whole all spells spelled =
    same_areas one other whole all (λ k within. same_bytes_in h words one other k whole all spells spelled within)
