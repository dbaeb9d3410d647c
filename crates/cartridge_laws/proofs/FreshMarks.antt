-- Words that mark a cartridge's defects, and words that an area shows.
use Rattle.std.proofs.Common.{ℕ, zero, suc, ◌-◌, ◌^◌, ◌<◌, List, [], ◌∷◌, take, arith, All, ◌≡◌, ◌+◌, drop, ◌⊎◌, inl, inr, ◌≤◌, length, ◌∙◌}
use Rattle.std.proofs.Common.{◌*◌, ◌/◌, ◌%◌, get_or, ap, sym}
use Rattle.std.proofs.Math.Nat.{pow-suc}
use Rattle.std.proofs.lemmas.List.Elements.{All-head, All-tail, All-drop, All-nil, All-from_get_or, All-get_or}
use Rattle.std.proofs.lemmas.Bool.{cases_lt}
use Rattle.std.proofs.lemmas.List.{get_or_past, same_lists, get_or_default}
use Rattle.std.proofs.lemmas.Option.{unwrap_or-slice_get}
use Rattle.std.proofs.lemmas.List.FromFn.{length-map-range_with_len}
use Rattle.std.proofs.lemmas.Nat.Bits.{same_from_bits_below}
use Rattle.cartridge_laws.proofs.FreshSpelled.{sector_is, word_of, spelled_is_one}
use Rattle.cartridge_laws.specs.FreshLaws.{AreWords, ShownAreWords, MarksAreOne, FreshAreaIsOne}
use Rattle.cartridge_spec.specs.Formatting.{MarksDefects, fresh_header, IsFreshWith}
use Rattle.cartridge_laws.specs.HeaderTerms.{IsFreshArea, words_in}
use Rattle.cartridge_spec.specs.Header.{word_in}
use Rattle.cartridge_spec.specs.Shape.{IsArea, sector_at}
use Rattle.qic_base.specs.Cartridge.{Cartridge}
use Rattle.qic_base.specs.Field.{little_endian, number_at}

-- ---- words that an area shows

-- a number of so many bytes
pub little_endian-below : (n : ℕ) (xs : List ℕ) → All (λ b. b < 256) xs → little_endian (take n xs) < 256 ^ n
little_endian-below zero xs small = omega arith
little_endian-below (suc n) [] small =
    let some = little_endian-below n [] small in
    omega (arith, pow-suc 256 n)
little_endian-below (suc n) (x ∷ xs) small =
    let first : x < 256 = All-head (λ b. b < 256) x xs small in
    let rest : little_endian (take n xs) < 256 ^ n = little_endian-below n xs (All-tail (λ b. b < 256) x xs small) in
    omega (arith, pow-suc 256 n)

number_at-below : (bytes : List ℕ) (at : ℕ) → All (λ b. b < 256) bytes → number_at bytes at 4 < 2 ^ 32
unfolding number_at
number_at-below bytes at small =
    let wide : at + 4 - at ≡ 4 = omega arith in
    rw wide (little_endian-below 4 (drop at bytes) (All-drop (λ b. b < 256) at bytes small))

-- the bytes of a sector; behind the area there are none
bytes_of_sector : (area : List (List ℕ)) (s : ℕ) → IsArea area → All (λ b. b < 256) (sector_at area s)
bytes_of_sector area s whole = by_place (cases_lt s 29)
  where
    nothing : (xs : List ℕ) → xs ≡ [] → All (λ b. b < 256) xs
    nothing xs none = rw none (All-nil (λ b. b < 256))

    by_place : (s < 29) ⊎ (29 ≤ s) → All (λ b. b < 256) (sector_at area s)
    by_place (inl within) = (sector_is area s whole within).each
    by_place (inr past) =
        let size : length area ≡ 29 = whole.size in
        nothing (sector_at area s) (unwrap_or-slice_get area s [] ∙ get_or_past area s [] (omega arith))

word_in-below : (area : List (List ℕ)) (s : ℕ) → IsArea area → word_in area s < 2 ^ 32
word_in-below area s whole =
    number_at-below (sector_at area ((2048 + 4 * s) / 1024)) ((2048 + 4 * s) % 1024) (bytes_of_sector area ((2048 + 4 * s) / 1024) whole)

shown_below : (area : List (List ℕ)) (words : List ℕ) (n : ℕ) → IsArea area → words ≡ words_in area n → AreWords words
shown_below area words n whole is =
    All-from_get_or (λ word. word < 2 ^ 32) words 0 (λ s below.
    let size : length words ≡ n = ap length is ∙ length-map-range_with_len (word_in area) 0 n in
    let word : word_in area s ≡ get_or words s 0 = word_of area words n s is (omega arith) in
    let small : word_in area s < 2 ^ 32 = word_in-below area s whole in
    omega arith)

pub shown_are_words : ShownAreWords
shown_are_words h words area whole shows = shown_below area words (28 * h.segments_per_track) whole shows.map

-- ---- words that mark the same defects

-- a bit by whether it is 1
same_bit : (x y : ℕ) → (x % 2 ≡ 1 → y % 2 ≡ 1) → (y % 2 ≡ 1 → x % 2 ≡ 1) → x % 2 ≡ y % 2
same_bit x y there back = by_bit (cases_lt (x % 2) 1) (cases_lt (y % 2) 1)
  where
    by_bit : (x % 2 < 1) ⊎ (1 ≤ x % 2) → (y % 2 < 1) ⊎ (1 ≤ y % 2) → x % 2 ≡ y % 2
    by_bit (inl none) (inl nothing) = omega arith
    by_bit (inr some) other = sym (there (omega arith) ∙ sym (omega arith))
    by_bit (inl none) (inr some) = back (omega arith) ∙ omega arith

same_word : (c : Cartridge) (one other : List ℕ) (s : ℕ) → MarksDefects c one → MarksDefects c other →
    s < 28 * c.info.segments_per_track → get_or one s 0 < 2 ^ 32 → get_or other s 0 < 2 ^ 32 → get_or one s 0 ≡ get_or other s 0
same_word c one other s marks marked on small less =
    same_from_bits_below 32 (get_or one s 0) (get_or other s 0) small less (λ i within.
    same_bit (get_or one s 0 / 2 ^ i) (get_or other s 0 / 2 ^ i)
    (λ lost. (marked.each s i on within).1 ((marks.each s i on within).0 lost))
    (λ lost. (marks.each s i on within).1 ((marked.each s i on within).0 lost)))

pub marks_are_one : MarksAreOne
marks_are_one c one other small less marks marked =
    same_lists one other (marks.size ∙ sym marked.size) (λ s d within.
    let size : length one ≡ 28 * c.info.segments_per_track = marks.size in
    let wide : length other ≡ 28 * c.info.segments_per_track = marked.size in
    get_or_default one s d 0 within
    ∙ same_word c one other s marks marked (omega arith)
    (All-get_or (λ word. word < 2 ^ 32) one s 0 within small)
    (All-get_or (λ word. word < 2 ^ 32) other s 0 (omega arith) less)
    ∙ get_or_default other s 0 d (omega arith))

-- ---- fresh header data

fresh_words : (c : Cartridge) (label : List ℕ) (date : ℕ) (words : List ℕ) (area : List (List ℕ)) → IsFreshWith c label date words area →
    AreWords words
fresh_words c label date words area for =
    shown_are_words (fresh_header c.info.segments_per_track label date) words area for.size for.spells.shows

pub fresh_area_is_one : FreshAreaIsOne
fresh_area_is_one c label date words others area other for fro =
    let same : words ≡ others = marks_are_one c words others (fresh_words c label date words area for)
    (fresh_words c label date others other fro) for.marks fro.marks in
    let before : IsFreshArea c.info.segments_per_track label date others other = record { size = fro.size; spells = fro.spells } in
    let moved : IsFreshArea c.info.segments_per_track label date words other = rw same before in
    (same, spelled_is_one (fresh_header c.info.segments_per_track label date) words area other for.size moved.size for.spells moved.spells)
