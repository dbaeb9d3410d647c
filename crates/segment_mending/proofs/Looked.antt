-- The segments that are looked at, up to one of them.
use Rattle.std.proofs.Common.{◌≡◌, ℕ, zero, suc, ◌+◌, ◌-◌, ◌<◌, ◌≤◌, Bool, true, false, cond, List, [], ◌∷◌, ◌++◌, length, take, drop}
use Rattle.std.proofs.Common.{filter, slice_get, Some, refl, sym, ap, ◌∙◌, subst, arith, append_assoc, append-nil}
use Rattle.std.specs.List.{range_with_len}
use Rattle.qic_base.proofs.Arrays.{range_part}
use Rattle.std.proofs.lemmas.Bool.{le-leb, lt-leb}
use Rattle.std.proofs.lemmas.List.{take_more, take-append-drop}
use Rattle.std.proofs.lemmas.List.Elements.{filter-append}
use Rattle.std.proofs.lemmas.List.FromFn.{length-range_with_len}
use Rattle.std.proofs.lemmas.Option.{slice_get_within, get_or_from_slice_get}
use Rattle.cartridge_spec.specs.Shape.{mask_at, usable_count}
use Rattle.cartridge_spec.specs.Table.{Entry}
use Rattle.cartridge_laws.specs.Table.{LieBehind}
use Rattle.cartridge_spec.specs.Volumes.{carrying, carrying_segments}
use Rattle.command_spec.specs.Scrub.{Looked, looked_volumes}
use Rattle.command_laws.specs.ScrubTerms.{looked_segments}
use Rattle.cartridge_laws.proofs.AppendSegments.{carries}

-- ---- the segments of a volume

-- the carrying segments from one on, below another
abbrev pub carrying_below : List ℕ → (start segment : ℕ) → List ℕ
carrying_below words start segment = filter (carries words) (range_with_len start (segment - start))

pub below_none : (words : List ℕ) (start : ℕ) → carrying_below words start start ≡ []
below_none words start = let none : start - start ≡ 0 = omega arith in ap (λ (n : ℕ). filter (carries words) (range_with_len start n)) none

-- those up to a segment, and those behind it
pub segments_part : (words : List ℕ) (start segment last : ℕ) → start ≤ segment → segment ≤ last →
    carrying_below words start last ≡ carrying_below words start segment ++ carrying_below words segment last
segments_part words start segment last low high =
    let parts : last - start ≡ segment - start + (last - segment) = omega arith in
    let next : start + (segment - start) ≡ segment = omega arith in
    ap (λ (n : ℕ). filter (carries words) (range_with_len start n)) parts
    ∙ ap (filter (carries words)) (range_part start (segment - start) (last - segment)
    ∙ ap (λ (s : ℕ). range_with_len start (segment - start) ++ range_with_len s (last - segment)) next)
    ∙ filter-append (carries words) (range_with_len start (segment - start)) (range_with_len segment (last - segment))

-- a segment alone
pub one_more : (words : List ℕ) (segment : ℕ) → carrying words segment segment ≡ cond (carries words segment) (segment ∷ []) []
one_more words segment =
    let one : segment + 1 - segment ≡ 1 = omega arith in ap (λ (n : ℕ). filter (carries words) (range_with_len segment n)) one

pub one_carries : (words : List ℕ) (segment : ℕ) → 4 ≤ usable_count (mask_at words segment) → carrying words segment segment ≡ segment ∷ []
one_carries words segment many =
    one_more words segment ∙ ap (λ (b : Bool). cond b (segment ∷ []) []) (le-leb 4 (usable_count (mask_at words segment)) many)

pub none_carries : (words : List ℕ) (segment : ℕ) → usable_count (mask_at words segment) < 4 → carrying words segment segment ≡ []
none_carries words segment few =
    one_more words segment ∙ ap (λ (b : Bool). cond b (segment ∷ []) []) (lt-leb 4 (usable_count (mask_at words segment)) few)

segments_join : (words xs ys : List ℕ) → looked_segments words (xs ++ ys) ≡ looked_segments words xs ++ looked_segments words ys
segments_join words [] ys = refl
segments_join words (x ∷ xs) ys = ap (λ (ls : List Looked). record { segment = x; mask = mask_at words x } ∷ ls) (segments_join words xs ys)

pub segments_whole : (words : List ℕ) (start segment last : ℕ) → start ≤ segment → segment ≤ last →
    looked_segments words (carrying_below words start segment) ++ looked_segments words (carrying_below words segment last)
    ≡ looked_segments words (carrying_below words start last)
segments_whole words start segment last low high =
    sym (segments_join words (carrying_below words start segment) (carrying_below words segment last))
    ∙ ap (looked_segments words) (sym (segments_part words start segment last low high))

-- one segment more
pub segments_next : (words : List ℕ) (start segment : ℕ) → start ≤ segment →
    looked_segments words (carrying_below words start segment) ++ looked_segments words (carrying words segment segment)
    ≡ looked_segments words (carrying_below words start (segment + 1))
segments_next words start segment low = segments_whole words start segment (segment + 1) low (omega arith)

-- a segment with this mask, if it carries data, ..
pub one_looked : (words : List ℕ) (segment usable : ℕ) → usable ≡ mask_at words segment → 4 ≤ usable_count usable →
    record { segment = segment; mask = usable } ∷ [] ≡ looked_segments words (carrying words segment segment)
one_looked words segment usable is many =
    let alone : carrying words segment segment ≡ segment ∷ [] =
    one_carries words segment (subst (λ (mask : ℕ). 4 ≤ usable_count mask) is many) in
    ap (λ (mask : ℕ). record { segment = segment; mask = mask } ∷ []) is ∙ sym (ap (looked_segments words) alone)

-- .. and none if it doesn't
pub none_looked : (words : List ℕ) (segment usable : ℕ) → usable ≡ mask_at words segment → usable_count usable < 4 →
    looked_segments words (carrying words segment segment) ≡ []
none_looked words segment usable is few =
    ap (looked_segments words) (none_carries words segment (subst (λ (mask : ℕ). usable_count mask < 4) is few))

length-segments : (words xs : List ℕ) → length (looked_segments words xs) ≡ length xs
length-segments words [] = refl
length-segments words (x ∷ xs) = ap suc (length-segments words xs)

shorter : (b : Bool) (x n : ℕ) (xs : List ℕ) → length xs ≤ n → length (cond b (x ∷ xs) xs) ≤ suc n
shorter true x n xs h = omega arith
shorter false x n xs h = omega arith

filter_most : (test : ℕ → Bool) (xs : List ℕ) → length (filter test xs) ≤ length xs
filter_most test [] = omega arith
filter_most test (x ∷ xs) = shorter (test x) x (length xs) (filter test xs) (filter_most test xs)

pub length-below : (words : List ℕ) (start segment : ℕ) →
    length (looked_segments words (carrying_below words start segment)) ≤ segment - start
length-below words start segment =
    let range : List ℕ = range_with_len start (segment - start) in
    let most : length (filter (carries words) range) ≤ length range = filter_most (carries words) range in
    let size : length range ≡ segment - start = length-range_with_len start (segment - start) in
    let same : length (looked_segments words (carrying_below words start segment)) ≡ length (carrying_below words start segment) =
    length-segments words (carrying_below words start segment) in
    omega arith

-- ---- volumes

volumes_join : (words : List ℕ) (xs ys : List Entry) → looked_volumes words (xs ++ ys) ≡ looked_volumes words xs ++ looked_volumes words ys
volumes_join words [] ys = refl
volumes_join words (x ∷ xs) ys =
    let segments : List Looked = looked_segments words (carrying_segments words x) in
    ap (λ (ls : List Looked). segments ++ ls) (volumes_join words xs ys)
    ∙ sym (append_assoc segments (looked_volumes words xs) (looked_volumes words ys))

-- one volume more
pub volumes_more : (words : List ℕ) (xs : List Entry) (i : ℕ) (e : Entry) → slice_get xs i ≡ Some e →
    looked_volumes words (take (i + 1) xs) ≡ looked_volumes words (take i xs) ++ looked_segments words (carrying_segments words e)
volumes_more words xs i e at =
    let next : take (i + 1) xs ≡ take i xs ++ e ∷ [] =
    take_more xs i e (slice_get_within xs i e at) ∙ ap (λ (x : Entry). take i xs ++ x ∷ []) (get_or_from_slice_get xs i e e at) in
    ap (looked_volumes words) next ∙ volumes_join words (take i xs) (e ∷ [])
    ∙ ap (λ (ls : List Looked). looked_volumes words (take i xs) ++ ls) (append-nil (looked_segments words (carrying_segments words e)))

-- the first volumes, and the others
pub volumes_part : (words : List ℕ) (xs : List Entry) (i : ℕ) → looked_volumes words (take i xs) ++ looked_volumes words
    (drop i xs) ≡ looked_volumes words xs
volumes_part words xs i = sym (volumes_join words (take i xs) (drop i xs)) ∙ ap (looked_volumes words) (take-append-drop i xs)

-- a volume of a list in order
pub record LiesOn (last : ℕ) (e : Entry) : Type 0 where
  pub behind : 2 < e.start
  pub forwards : e.start ≤ e.end
  pub within : e.end ≤ last

lies_behind : (before last : ℕ) (xs : List Entry) (i : ℕ) (e : Entry) → 2 ≤ before → LieBehind before last xs → slice_get xs i ≡ Some e →
    LiesOn last e
lies_behind before last [] i e least order at = absurd (cc)
lies_behind before last (x ∷ xs) zero e least order at =
    let same : x ≡ e = cc in
    subst (LiesOn last) same (record { behind = omega (arith, order.0); forwards = order.1; within = order.2 })
lies_behind before last (x ∷ xs) (suc i) e least order at =
    lies_behind x.end last xs i e (omega (arith, order.0, order.1)) order.3 at

pub lies_on : (last : ℕ) (xs : List Entry) (i : ℕ) (e : Entry) → LieBehind 2 last xs → slice_get xs i ≡ Some e → LiesOn last e
lies_on last xs i e order at = lies_behind 2 last xs i e (omega arith) order at
