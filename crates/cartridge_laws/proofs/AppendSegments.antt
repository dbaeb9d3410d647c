-- The segments that a new volume takes: the carrying ones from its first to its last, behind all that were taken.
use Rattle.std.proofs.Common.{ℕ, zero, suc, ◌+◌, ◌-◌, ◌≤◌, Bool, All, arith, ◌<◌, List, [], ◌∷◌, inl, inr, sym, subst, ◌≡◌, ◌⊎◌, length}
use Rattle.std.proofs.Common.{get_or, ap, true, refl, ◌∙◌, false, cond, nat_le, ◌*◌, sum_by, ◌&&◌, nat_lt}
use Rattle.std.specs.List.{range_with_len}
use Rattle.std.proofs.lemmas.List.Elements.{All-nil, All-cons, All-weaker, All-filter, filter_passes}
use Rattle.std.proofs.lemmas.Bool.{cases_Bool, leb-true, ltb-true, false≢true, and_parts}
use Rattle.std.proofs.lemmas.List.Sums.{sum_by-cons}
use Rattle.cartridge_laws.proofs.MountWriting.{places_that, places_none, places_passes, places_fails}
use Rattle.cartridge_laws.proofs.Places.{count_below}
use Rattle.cartridge_laws.specs.Shape.{Carries}
use Rattle.cartridge_spec.specs.Appending.{taken_by, room, free_segments}
use Rattle.cartridge_laws.specs.Table.{last_end}
use Rattle.cartridge_spec.specs.Shape.{mask_at, capacity, usable_count, data_count}
use Rattle.cartridge_spec.specs.Table.{Entry}
use Rattle.cartridge_spec.specs.Volumes.{carrying, capacity_between}
use Rattle.qic_base.specs.Cartridge.{lost_places}

-- ---- the places from one on that pass a test

places_from : (test : ℕ → Bool) (m from : ℕ) → All (λ s. from ≤ s) (places_that test from m)
unfolding places_that
places_from test m from = All-filter test (λ (s : ℕ). from ≤ s) (range_with_len from m) (range_from m from)
  where
    range_from : (n start : ℕ) → All (λ s. start ≤ s) (range_with_len start n)
    range_from zero start = All-nil (λ (s : ℕ). start ≤ s)
    range_from (suc n) start =
        All-cons (λ (s : ℕ). start ≤ s) start (range_with_len (start + 1) n) (omega arith)
        (All-weaker (λ (s : ℕ). start + 1 ≤ s) (λ (s : ℕ). start ≤ s) (λ s (h : start + 1 ≤ s). omega arith) (range_with_len (start + 1) n)
        (range_from n (start + 1)))

-- a list that rises
abbrev pub IsRising : List ℕ → Type 0
IsRising [] = Unit {0}
IsRising (x ∷ xs) = All (λ y. x < y) xs × IsRising xs

rising : (test : ℕ → Bool) (m from : ℕ) → IsRising (places_that test from m)
rising test zero from = subst IsRising (sym (places_none test from)) tt
rising test (suc m) from =
    elim (cases_Bool (test from)) [
      | inl passes ↦
          subst IsRising (sym (places_passes test from m passes)) (
            All-weaker (λ (s : ℕ). from + 1 ≤ s) (λ (s : ℕ). from < s) (λ s (h : from + 1 ≤ s). omega arith) (places_that test (from + 1) m)
                (places_from test m (from + 1)),
            rising test m (from + 1),
          )
      | inr fails ↦ subst IsRising (sym (places_fails test from m fails)) (rising test m (from + 1))
    ]

-- a front of these places, up to its last one
record Front (test : ℕ → Bool) (from m : ℕ) (taken : List ℕ) : Type 0 where
  count : ℕ
  within : count ≤ m
  is : taken ≡ places_that test from count
  last : (taken ≡ []) ⊎ ((1 ≤ count) × (1 ≤ length taken) × (get_or taken (length taken - 1) 0 + 1 ≡ from + count))

last_of : (x : ℕ) (xs : List ℕ) → 1 ≤ length xs → get_or (x ∷ xs) (length (x ∷ xs) - 1) 0 ≡ get_or xs (length xs - 1) 0
last_of x xs some =
    let place : length (x ∷ xs) - 1 ≡ suc (length xs - 1) = omega arith in
    ap (λ (k : ℕ). get_or (x ∷ xs) k 0) place

front_one : (test : ℕ → Bool) (from m : ℕ) → test from ≡ true → Front test from (suc m) (from ∷ [])
front_one test from m passes = record {
  count = 1;
  within = omega arith;
  is = sym (places_passes test from 0 passes ∙ ap (λ (ps : List ℕ). from ∷ ps) (places_none test (from + 1)));
  last = inr (omega arith, omega arith, refl);
}

front_more : (test : ℕ → Bool) (from m : ℕ) (rest : List ℕ) → test from ≡ true → Front test (from + 1) m rest →
    Front test from (suc m) (from ∷ rest)
front_more test from m rest passes front = by_last front.last
  where
    by_last : (rest ≡ []) ⊎ ((1 ≤ front.count) × (1 ≤ length rest) × (get_or rest (length rest - 1) 0 + 1 ≡ from + 1 + front.count)) →
        Front test from (suc m) (from ∷ rest)
    by_last (inl none) = subst (λ (ps : List ℕ). Front test from (suc m) (from ∷ ps)) (sym none) (front_one test from m passes)
    by_last (inr some) =
        let within : front.count ≤ m = front.within in
        let last : get_or rest (length rest - 1) 0 + 1 ≡ from + 1 + front.count = some.2 in
        let is_last : get_or (from ∷ rest) (length (from ∷ rest) - 1) 0 ≡ get_or rest (length rest - 1) 0 = last_of from rest some.1 in
        record {
          count = suc front.count;
          within = omega arith;
          is = ap (λ (ps : List ℕ). from ∷ ps) front.is ∙ sym (places_passes test from front.count passes);
          last = inr (omega arith, omega arith, omega arith);
        }

front_fails : (test : ℕ → Bool) (from m : ℕ) (taken : List ℕ) → test from ≡ false → Front test (from + 1) m taken →
    Front test from (suc m) taken
front_fails test from m taken fails front = by_last front.last
  where
    by_last : (taken ≡ []) ⊎ ((1 ≤ front.count) × (1 ≤ length taken) × (get_or taken (length taken - 1) 0 + 1 ≡ from + 1 + front.count)) →
        Front test from (suc m) taken
    by_last (inl none) = record { count = 0; within = omega arith; is = none ∙ sym (places_none test from); last = inl none }
    by_last (inr some) =
        let within : front.count ≤ m = front.within in
        let last : get_or taken (length taken - 1) 0 + 1 ≡ from + 1 + front.count = some.2 in
        record {
          count = suc front.count;
          within = omega arith;
          is = front.is ∙ sym (places_fails test from front.count fails);
          last = inr (omega arith, some.1, omega arith);
        }

front_ends : (test : ℕ → Bool) (from m : ℕ) (rest : List ℕ) (ends : Bool) → test from ≡ true → Front test (from + 1) m rest →
    Front test from (suc m) (from ∷ cond ends [] rest)
front_ends test from m rest true passes front = front_one test from m passes
front_ends test from m rest false passes front = front_more test from m rest passes front

taken_front : (words : List ℕ) (test : ℕ → Bool) (m from bytes : ℕ) → Front test from m (taken_by words bytes (places_that test from m))
taken_front words test zero from bytes =
    subst (λ (ps : List ℕ). Front test from zero (taken_by words bytes ps)) (sym (places_none test from))
    (record { count = 0; within = omega arith; is = sym (places_none test from); last = inl refl })
taken_front words test (suc m) from bytes =
    elim (cases_Bool (test from)) [
      | inl passes ↦
          subst (λ (ps : List ℕ). Front test from (suc m) (taken_by words bytes ps)) (sym (places_passes test from m passes))
          (front_ends test from m (taken_by words (bytes - capacity (mask_at words from)) (places_that test (from + 1) m))
          (nat_le bytes (capacity (mask_at words from))) passes
          (taken_front words test m (from + 1) (bytes - capacity (mask_at words from))))
      | inr fails ↦
          subst (λ (ps : List ℕ). Front test from (suc m) (taken_by words bytes ps)) (sym (places_fails test from m fails))
          (front_fails test from m (taken_by words bytes (places_that test (from + 1) m)) fails (taken_front words test m (from + 1) bytes))
    ]

-- places that pass a test begin with their first one
record Begun (test : ℕ → Bool) (from k : ℕ) (xs : List ℕ) : Type 0 where
  start : ℕ
  starts : get_or xs 0 0 ≡ start
  least : from ≤ start
  below : start < from + k
  is : xs ≡ places_that test start (from + k - start)

begins : (test : ℕ → Bool) (k from : ℕ) (xs : List ℕ) → xs ≡ places_that test from k → 1 ≤ length xs → Begun test from k xs
begins test zero from xs is some =
    let none : length xs ≡ 0 = ap (λ (ps : List ℕ). length ps) (is ∙ places_none test from) in
    absurd (omega arith)
begins test (suc k) from xs is some =
    elim (cases_Bool (test from)) [
      | inl passes ↦
          let count : suc k ≡ from + suc k - from = omega arith in
          record {
            start = from;
            starts = ap (λ (ps : List ℕ). get_or ps 0 0) (is ∙ places_passes test from k passes);
            least = omega arith;
            below = omega arith;
            is = is ∙ ap (places_that test from) count;
          }
      | inr fails ↦
          let rest : Begun test (from + 1) k xs = begins test k (from + 1) xs (is ∙ places_fails test from k fails) some in
          let least : from + 1 ≤ rest.start = rest.least in
          let below : rest.start < from + 1 + k = rest.below in
          let count : from + 1 + k - rest.start ≡ from + suc k - rest.start = omega arith in
          record {
            start = rest.start;
            starts = rest.starts;
            least = omega arith;
            below = omega arith;
            is = rest.is ∙ ap (places_that test rest.start) count;
          }
    ]

-- ---- carrying segments

-- the segment carries data
abbrev pub carries : List ℕ → ℕ → Bool
carries words s = nat_le 4 (usable_count (mask_at words s))

pub carrying_are : (words : List ℕ) (start end : ℕ) → carrying words start end ≡ places_that (carries words) start (end + 1 - start)
unfolding places_that
carrying_are words start end = refl

pub carrying_carry : (words : List ℕ) (start end : ℕ) → All (λ s. Carries (mask_at words s)) (carrying words start end)
carrying_carry words start end =
    All-weaker (λ (s : ℕ). carries words s ≡ true) (λ (s : ℕ). Carries (mask_at words s))
    (λ s passes. leb-true 4 (usable_count (mask_at words s)) passes)
    (carrying words start end) (filter_passes (carries words) (range_with_len start (end + 1 - start)))

pub carrying_rise : (words : List ℕ) (start end : ℕ) → IsRising (carrying words start end)
carrying_rise words start end = subst IsRising (sym (carrying_are words start end)) (rising (carries words) (end + 1 - start) start)

pub carrying_from : (words : List ℕ) (start end : ℕ) → All (λ s. start ≤ s) (carrying words start end)
carrying_from words start end =
    subst (λ (ss : List ℕ). All (λ s. start ≤ s) ss) (sym (carrying_are words start end))
    (places_from (carries words) (end + 1 - start) start)

-- ---- how much they carry

-- what one of them carries, by whether it carries data
pub carried : (b : Bool) (n : ℕ) → b ≡ false → cond b n 0 ≤ 0
carried true n is = absurd (cc)
carried false n is = omega arith

carried_most : (b : Bool) (n : ℕ) → cond b n 0 ≤ n
carried_most true n = omega arith
carried_most false n = omega arith

some_carries : (words : List ℕ) (m from : ℕ) → 1 ≤ sum_by (λ s. capacity (mask_at words s)) (range_with_len from m) →
    1 ≤ length (places_that (carries words) from m)
some_carries words zero from some = absurd (omega arith)
some_carries words (suc m) from some =
    elim (cases_Bool (carries words from)) [
      | inl passes ↦
          let long : length (places_that (carries words) from (suc m)) ≡ suc (length (places_that (carries words) (from + 1) m)) =
          ap (λ (ps : List ℕ). length ps) (places_passes (carries words) from m passes) in
          omega arith
      | inr fails ↦
          let first = carried (carries words from) (1024 * data_count (mask_at words from)) fails in
          let rest : 1 ≤ length (places_that (carries words) (from + 1) m) =
          some_carries words m (from + 1)
          (omega (arith, some, first, sum_by-cons (λ s. capacity (mask_at words s)) from (range_with_len (from + 1) m))) in
          let long : length (places_that (carries words) from (suc m)) ≡ length (places_that (carries words) (from + 1) m) =
          ap (λ (ps : List ℕ). length ps) (places_fails (carries words) from m fails) in
          omega arith
    ]

capacity_most : (words : List ℕ) (s : ℕ) → capacity (mask_at words s) ≤ 29696
capacity_most words s =
    let usable : length (lost_places (mask_at words s) 32) ≤ 32 = count_below (mask_at words s) 32 in
    let most = carried_most (carries words s) (1024 * data_count (mask_at words s)) in
    omega arith

sum_most : (words : List ℕ) (m from : ℕ) → sum_by (λ s. capacity (mask_at words s)) (range_with_len from m) ≤ 29696 * m
sum_most words zero from = omega arith
sum_most words (suc m) from =
    omega (
      arith,
      capacity_most words from,
      sum_most words m (from + 1),
      sum_by-cons (λ s. capacity (mask_at words s)) from (range_with_len (from + 1) m),
    )

-- ---- the segments of a new volume

taken_some : (words : List ℕ) (bytes : ℕ) (ss : List ℕ) → 1 ≤ length ss → 1 ≤ length (taken_by words bytes ss)
taken_some words bytes [] some = absurd (omega arith)
taken_some words bytes (s ∷ ss) some = omega arith

-- they are the carrying segments from the first to the last of them, behind one that is taken
pub record AreTaken (words : List ℕ) (from last : ℕ) (segments : List ℕ) : Type 0 where
  pub start : ℕ
  pub end : ℕ
  pub starts : get_or segments 0 0 ≡ start
  pub ends : get_or segments (length segments - 1) 0 ≡ end
  pub are : segments ≡ carrying words start end
  pub behind : from < start
  pub forwards : start ≤ end
  pub within : end ≤ last

front_taken : (words : List ℕ) (from last : ℕ) (taken : List ℕ) → Front (carries words) (from + 1) (last + 1 - (from + 1)) taken →
    1 ≤ length taken →
    AreTaken words from last taken
front_taken words from last taken front some = by_last front.last
  where
    by_last : (taken ≡ []) ⊎ ((1 ≤ front.count) × (1 ≤ length taken) × (get_or taken (length taken - 1) 0 + 1 ≡ from + 1 + front.count)) →
        AreTaken words from last taken
    by_last (inl none) =
        let long : length taken ≡ 0 = ap (λ (ps : List ℕ). length ps) none in
        absurd (omega arith)
    by_last (inr is) =
        let begun = begins (carries words) front.count (from + 1) taken front.is some in
        let end : ℕ = get_or taken (length taken - 1) 0 in
        let ends : end + 1 ≡ from + 1 + front.count = is.2 in
        let counted : 1 ≤ front.count = is.0 in
        let within : front.count ≤ last + 1 - (from + 1) = front.within in
        let least : from + 1 ≤ begun.start = begun.least in
        let below : begun.start < from + 1 + front.count = begun.below in
        let count : from + 1 + front.count - begun.start ≡ end + 1 - begun.start = omega arith in
        record {
          start = begun.start;
          end = end;
          starts = begun.starts;
          ends = refl;
          are = begun.is ∙ ap (places_that (carries words) begun.start) count ∙ sym (carrying_are words begun.start end);
          behind = omega arith;
          forwards = omega arith;
          within = omega arith;
        }

-- what room is known to be
pub record HasRoom (words : List ℕ) (entries : List Entry) (bytes : ℕ) : Type 0 where
  pub free_slot : length entries < 232
  pub some : 1 ≤ capacity_between words (last_end entries + 1) (length words - 1)
  pub enough : bytes ≤ capacity_between words (last_end entries + 1) (length words - 1)

by_slots : (b : Bool) (count have bytes : ℕ) → nat_lt count 232 ≡ b → (nat_le 1 (cond b have 0) && nat_le bytes (cond b have 0)) ≡ true →
    (count < 232) × (1 ≤ have) × (bytes ≤ have)
by_slots true count have bytes is holds =
    let both = and_parts (nat_le 1 have) (nat_le bytes have) holds in
    (ltb-true count 232 is, leb-true 1 have both.0, leb-true bytes have both.1)
by_slots false count have bytes is holds = absurd (false≢true (and_parts (nat_le 1 0) (nat_le bytes 0) holds).0)

pub room_is : (words : List ℕ) (entries : List Entry) (bytes : ℕ) →
    (nat_le 1 (room words entries) && nat_le bytes (room words entries)) ≡ true →
    HasRoom words entries bytes
room_is words entries bytes holds =
    let all = by_slots (nat_lt (length entries) 232) (length entries) (capacity_between words (last_end entries + 1) (length words - 1))
    bytes refl holds in
    record { free_slot = all.0; some = all.1; enough = all.2 }

pub room_most : (words : List ℕ) (entries : List Entry) (last : ℕ) → capacity_between words (last_end entries + 1) last ≤ 29696 * (last + 1)
room_most words entries last =
    let from : ℕ = last_end entries + 1 in
    let most : capacity_between words from last ≤ 29696 * (last + 1 - from) = sum_most words (last + 1 - from) from in
    omega arith

pub segments_taken : (words : List ℕ) (entries : List Entry) (bytes : ℕ) → HasRoom words entries bytes →
    AreTaken words (last_end entries) (length words - 1) (taken_by words bytes (free_segments words entries))
segments_taken words entries bytes has =
    let last : ℕ = length words - 1 in
    let from : ℕ = last_end entries in
    let m : ℕ = last + 1 - (from + 1) in
    let free : free_segments words entries ≡ places_that (carries words) (from + 1) m = carrying_are words (from + 1) last in
    subst (λ (ss : List ℕ). AreTaken words from last (taken_by words bytes ss)) (sym free)
    (front_taken words from last (taken_by words bytes (places_that (carries words) (from + 1) m))
    (taken_front words (carries words) m (from + 1) bytes)
    (taken_some words bytes (places_that (carries words) (from + 1) m) (some_carries words m (from + 1) has.some)))
