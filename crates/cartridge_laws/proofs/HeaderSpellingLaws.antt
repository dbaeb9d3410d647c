-- What an encoder writes spells the header and its map.
use Rattle.std.proofs.Common.{◌≡◌, ◌⊎◌, inl, inr, ℕ, ◌/◌, ◌%◌, ◌<◌, ◌≤◌, List, [], length, get_or, replicate, ap, ◌∙◌, arith, ◌+◌, ◌++◌}
use Rattle.std.proofs.Common.{true, refl, drop, ◌&&◌, Bool, ◌∷◌, nat_lt, ◌*◌, set, get_or-set_same, ◌≢◌, sym, get_or-set_other, map}
use Rattle.std.proofs.lemmas.Bool.{cases_lt, cases_eq}
use Rattle.std.proofs.lemmas.List.{get_or_past, get_or-replicate}
use Rattle.std.proofs.lemmas.Option.{unwrap_or-slice_get}
use Rattle.std.specs.List.{All, AllByRecursion, range_with_len}
use Rattle.std.proofs.lemmas.List.Elements.{All-from_recursion, All-append, All-nil, All-cons, All-head, All-tail, All-take}
use Rattle.std.proofs.lemmas.Bool.Decides.{nat_tests}
use Rattle.cartridge_laws.proofs.HeaderFieldSets.{are_placed, HoldsHere, HoldsIn, HoldsIn-with_fields, get_or-with_fields}
use Rattle.cartridge_laws.specs.HeaderWriting.{told_fields, FieldFits, with_fields}
use Rattle.cartridge_laws.specs.HeaderTerms.{byte_in, words_in, IsInMap, IsInField}
use Rattle.cartridge_spec.specs.Header.{Header, Field, profile_fields, Value, Number, Text, HoldsValue, Holds, header_fields, word_in}
use Rattle.cartridge_spec.specs.Header.{SpellsHeader}
use Rattle.cartridge_spec.specs.Shape.{sector_at}
use Rattle.qic_base.specs.Cartridge.{IsLength}
use Rattle.qic_base.specs.Field.{number_at}
use Rattle.cartridge_laws.proofs.FreshFields.{and-left, and-right}
use Rattle.cartridge_laws.proofs.HeaderReadingLaws.{any}

-- sectors of zero bytes
pub all_clear : (area : List (List ℕ)) → ((i : ℕ) → i < length area → get_or area i [] ≡ replicate 1024 0) → (k : ℕ) → byte_in area k ≡ 0
all_clear area each k = ap (λ (xs : List ℕ). get_or xs (k % 1024) 0) (unwrap_or-slice_get area (k / 1024) [])
    ∙ by_place (cases_lt (k / 1024) (length area))
  where
    by_place : (k / 1024 < length area) ⊎ (length area ≤ k / 1024) → get_or (get_or area (k / 1024) []) (k % 1024) 0 ≡ 0
    by_place (inl within) = ap (λ (xs : List ℕ). get_or xs (k % 1024) 0) (each (k / 1024) within) ∙ get_or-replicate 1024 (k % 1024) 0 0
        (omega arith)
    by_place (inr past) = ap (λ (xs : List ℕ). get_or xs (k % 1024) 0) (get_or_past area (k / 1024) [] past)

-- ---- the first sector

-- all fields that are written
abbrev pub all_fields : Header → List Field
all_fields h = profile_fields h.segments_per_track ++ told_fields h

fields_placed : (h : Header) → are_placed (all_fields h) ≡ true
fields_placed h = refl

pub profile_fit : (n : ℕ) → IsLength n → All FieldFits (profile_fields n)
profile_fit n long =
    let most = long.longest in
    let last_six : AllByRecursion FieldFits (drop 6 (profile_fields n)) =
    (omega arith, (omega arith, (omega arith, (omega arith, (omega arith, (omega arith, tt)))))) in
    All-from_recursion FieldFits (profile_fields n)
    (omega arith, (omega arith, (omega arith, (omega arith, (omega arith, (omega arith, last_six))))))

fields_fit : (h : Header) → IsLength h.segments_per_track → All FieldFits (told_fields h) → All FieldFits (all_fields h)
fields_fit h long told = All-append FieldFits (profile_fields h.segments_per_track) (told_fields h)
    (profile_fit h.segments_per_track long) told

-- the fields begin in the first sector
abbrev are_first : List Field → Bool
are_first [] = true
are_first (f ∷ fs) = nat_lt f.offset 1024 && are_first fs

HoldsValue-first : (area : List (List ℕ)) (sector : List ℕ) (offset width : ℕ) (value : Value) → offset < 1024 → sector_at area 0 ≡ sector →
    HoldsHere sector offset width value → HoldsValue area offset width value
HoldsValue-first area sector offset width (Number value) h is holds =
    let quotient : offset / 1024 ≡ 0 = omega arith in
    let rest : offset % 1024 ≡ offset = omega arith in
    rw (quotient, rest, is) holds
HoldsValue-first area sector offset width (Text bytes) h is holds =
    let quotient : offset / 1024 ≡ 0 = omega arith in
    let rest : offset % 1024 ≡ offset = omega arith in
    rw (quotient, rest, is) holds

Holds-first : (fs : List Field) (area : List (List ℕ)) (sector : List ℕ) → are_first fs ≡ true → sector_at area 0 ≡ sector →
    All (HoldsIn sector) fs → All (Holds area) fs
Holds-first [] area sector first is holds = All-nil (Holds area)
Holds-first (f ∷ fs) area sector first is holds =
    let here : nat_lt f.offset 1024 ≡ true = and-left _ _ first in
    All-cons (Holds area) f fs
    (HoldsValue-first area sector f.offset f.width f.value (grind (arith, nat_tests)) is (All-head (HoldsIn sector) f fs holds))
    (Holds-first fs area sector (and-right _ _ first) is (All-tail (HoldsIn sector) f fs holds))

-- ---- the whole

-- an area as it comes into being: cleared, then the map, then the fields in its first sector
pub record IsEncoded (h : Header) (words sector : List ℕ) (clean mapped : List (List ℕ)) : Type 0 where
  pub tracks : IsLength h.segments_per_track
  pub told : All FieldFits (told_fields h)
  pub count : length words ≡ 28 * h.segments_per_track
  pub clear : (k : ℕ) → byte_in clean k ≡ 0
  pub words_written : words_in mapped (length words) ≡ words
  pub others : (k : ℕ) → ¬ (IsInMap (length words) k) → byte_in mapped k ≡ byte_in clean k
  pub sectors : length mapped ≡ 29
  pub long : length (get_or mapped 0 []) ≡ 1024
  pub fields : sector ≡ with_fields (all_fields h) (get_or mapped 0 [])

first_written : (mapped : List (List ℕ)) (sector : List ℕ) → length mapped ≡ 29 → sector_at (set mapped 0 sector) 0 ≡ sector
first_written mapped sector n =
    let there : 0 < length mapped = omega arith in
    unwrap_or-slice_get (set mapped 0 sector) 0 [] ∙ get_or-set_same mapped 0 sector [] there

later_kept : (mapped : List (List ℕ)) (sector : List ℕ) (i : ℕ) → i ≢ 0 → sector_at (set mapped 0 sector) i ≡ sector_at mapped i
later_kept mapped sector i later =
    unwrap_or-slice_get (set mapped 0 sector) i [] ∙ get_or-set_other mapped 0 i sector [] later ∙ sym (unwrap_or-slice_get mapped i [])

-- the first sector holds the fields
holds_all : (h : Header) (words sector : List ℕ) (clean mapped : List (List ℕ)) → IsEncoded h words sector clean mapped →
    All (Holds (set mapped 0 sector)) (all_fields h)
holds_all h words sector clean mapped e =
    Holds-first (all_fields h) (set mapped 0 sector) (with_fields (all_fields h) (get_or mapped 0 [])) refl
    (first_written mapped sector e.sectors ∙ e.fields)
    (HoldsIn-with_fields (all_fields h) (get_or mapped 0 []) (fields_placed h) (fields_fit h e.tracks e.told) e.long)

holds_told : (h : Header) (area : List (List ℕ)) → All (Holds area) (all_fields h) → All (Holds area) (header_fields h)
holds_told h area all =
    All-from_recursion (Holds area) (header_fields h) (
      all 12 any (omega arith),
      (
        all 13 any (omega arith),
        (all 7 any (omega arith), (all 14 any (omega arith), (all 15 any (omega arith), tt))),
      ),
    )

outside_all : (h : Header) (k : ℕ) → All (λ (field : Field). ¬ (IsInField k field))
    (profile_fields h.segments_per_track ++ header_fields h) → All (λ (field : Field). ¬ (IsInField k field)) (all_fields h)
outside_all h k outside =
    let P : Field → Type 0 = λ field. ¬ (IsInField k field) in
    All-append P (profile_fields h.segments_per_track) (told_fields h)
    (All-take P 12 (profile_fields h.segments_per_track ++ header_fields h) outside)
    (All-from_recursion P (told_fields h)
    (outside 12 any (omega arith), (outside 13 any (omega arith), (outside 15 any (omega arith), (outside 16 any (omega arith), tt)))))

-- the words of the map lie in later sectors
word_kept : (mapped : List (List ℕ)) (sector : List ℕ) (s : ℕ) → word_in (set mapped 0 sector) s ≡ word_in mapped s
word_kept mapped sector s = ap (λ (xs : List ℕ). number_at xs ((2048 + 4 * s) % 1024) 4)
    (later_kept mapped sector ((2048 + 4 * s) / 1024) (omega arith))

map-same : (f g : ℕ → ℕ) → ((x : ℕ) → f x ≡ g x) → (xs : List ℕ) → map f xs ≡ map g xs
map-same f g same [] = refl
map-same f g same (x ∷ xs) = rw (same x, map-same f g same xs) refl

map_kept : (mapped : List (List ℕ)) (sector : List ℕ) (n : ℕ) → words_in (set mapped 0 sector) n ≡ words_in mapped n
map_kept mapped sector n = map-same (word_in (set mapped 0 sector)) (word_in mapped) (word_kept mapped sector) (range_with_len 0 n)

-- all other bytes are 0
rest_clear : (h : Header) (words sector : List ℕ) (clean mapped : List (List ℕ)) → IsEncoded h words sector clean mapped → (k : ℕ) →
    All (λ (field : Field). ¬ (IsInField k field)) (profile_fields h.segments_per_track ++ header_fields h) →
    ¬ (IsInMap (28 * h.segments_per_track) k) → byte_in (set mapped 0 sector) k ≡ 0
rest_clear h words sector clean mapped e k outside no_map = by_sector (cases_eq (k / 1024) 0)
  where
    before : byte_in mapped k ≡ 0
    before = e.others k (λ in_map. no_map (rw e.count at in_map)) ∙ e.clear k

    by_sector : (k / 1024 ≡ 0) ⊎ (k / 1024 ≢ 0) → byte_in (set mapped 0 sector) k ≡ 0
    by_sector (inl first) =
        let place : k % 1024 ≡ k = omega arith in
        let clear : get_or (sector_at mapped 0) k 0 ≡ 0 = rw (first, place) at before in
        ap (λ (xs : List ℕ). get_or xs (k % 1024) 0) (ap (sector_at (set mapped 0 sector)) first ∙ first_written mapped sector e.sectors
        ∙ e.fields)
        ∙ ap (λ (i : ℕ). get_or (with_fields (all_fields h) (get_or mapped 0 [])) i 0) place
        ∙ get_or-with_fields (all_fields h) (get_or mapped 0 []) k (fields_placed h) (fields_fit h e.tracks e.told) e.long
        (outside_all h k outside)
        ∙ ap (λ (xs : List ℕ). get_or xs k 0) (sym (unwrap_or-slice_get mapped 0 []))
        ∙ clear
    by_sector (inr other) = ap (λ (xs : List ℕ). get_or xs (k % 1024) 0) (later_kept mapped sector (k / 1024) other) ∙ before

pub encoded_spells : (h : Header) (words sector : List ℕ) (clean mapped : List (List ℕ)) → IsEncoded h words sector clean mapped →
    SpellsHeader h words (set mapped 0 sector)
encoded_spells h words sector clean mapped e =
    let all : All (Holds (set mapped 0 sector)) (all_fields h) = holds_all h words sector clean mapped e in
    record {
      profile = All-take (Holds (set mapped 0 sector)) 12 (all_fields h) all;
      shows = record {
        header = holds_told h (set mapped 0 sector) all;
        map = sym e.words_written ∙ ap (words_in mapped) e.count ∙ sym (map_kept mapped sector (28 * h.segments_per_track));
      };
      rest = λ k within outside no_map. rest_clear h words sector clean mapped e k outside no_map;
    }
